-- The tree of a text is a program's tree.
use Rattle.std.proofs.Common.{le-leb, ◌≡◌, ℕ, suc, List, [], ◌∷◌, Option, Some, None, IsTrue, refl, sym, subst, length}
use Rattle.std.specs.Prelude.{nat_le}
use Rattle.spec_value.specs.Datum.{Text}
use Rattle.spec_program.specs.Tree.{Program}
use Rattle.spec_program.specs.Tokens.{Placed, tokens_of}
use Rattle.spec_program.specs.Reading.{Read, got, stuck}
use Rattle.spec_program.specs.ReadPrograms.{Stray, FoundBlock, block, Parsed, program, faulty, too_deep, tested_loops, tested, fault_at, parsed_by, parsed, greatest_depth}
use Rattle.spec_program.specs.Trees.{program_fits, program_height, is_tree}
use Rattle.spec_program.proofs.ReadFits.{Gives, and_also}
use Rattle.spec_program.proofs.LowTrees.{within_limit}
use Rattle.spec_program.proofs.TokensFit.{tokens_fit}
use Rattle.spec_program.proofs.StatementsFit.{Taken, BlockFits, blocks_fit}

abbrev Fits : Parsed → Type 0
Fits (program p) = IsTrue (program_fits [] p) × IsTrue (nat_le (program_height p) greatest_depth)
Fits (faulty f) = Unit {0}

loops_fit : (p : FoundBlock) → BlockFits p → too_deep p.nodes ≡ None → (ss : List Stray) → p.strays ≡ ss → Fits (tested_loops p ss)
loops_fit p h low [] e =
    (h.0 [] (subst (λ ss. Taken [] ss) (sym e) refl), le-leb (program_height p.tree) greatest_depth (h.1.bound greatest_depth (within_limit p.nodes low)))
loops_fit p h low (s ∷ ss) e = tt

tested_fits : (p : FoundBlock) → BlockFits p → (deep : Option ℕ) → too_deep p.nodes ≡ deep → Fits (tested p deep)
tested_fits p h None e = loops_fit p h e p.strays refl
tested_fits p h (Some line) e = tt

fault_fits : (all ts : List Placed) → Fits (fault_at all ts)
fault_fits all [] = tt
fault_fits all (p ∷ ts) = tt

by_fits : (all : List Placed) (r : Read FoundBlock) → Gives BlockFits r → Fits (parsed_by all r)
unfolding Gives
by_fits all (stuck ts) h = fault_fits all ts
by_fits all (got p []) h = tested_fits p h.0 (too_deep p.nodes) refl
by_fits all (got p (q ∷ ts)) h = fault_fits all (q ∷ ts)

both : (t : Text) → Fits (parsed t)
unfolding parsed
both t =
    let ts : List Placed = tokens_of t in
    by_fits ts (block (suc (suc (length ts))) ts) (blocks_fit (suc (suc (length ts))) ts (tokens_fit (length t) 1 t))

pub parsed_fits : (t : Text) (p : Program) → parsed t ≡ program p → IsTrue (program_fits [] p)
parsed_fits t p e = let h : Fits (program p) = subst Fits e (both t) in h.0

pub parsed_is_tree : (t : Text) (p : Program) → parsed t ≡ program p → IsTrue (is_tree p)
parsed_is_tree t p e = let h : Fits (program p) = subst Fits e (both t) in and_also h.0 h.1
