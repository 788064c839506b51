-- A text spells no more than two nodes for each of its characters.
use Rattle.std.proofs.Common.{◌≤◌, ◌+◌, ◌*◌, ℕ, zero, suc, Bool, true, false, List, [], ◌∷◌, length, Option, Some, None, subst, arith}
use Rattle.spec_value.specs.Datum.{Text}
use Rattle.spec_program.specs.Tokens.{Token, bad, Placed, first_token, is_blank, line_after, and_later, blank_or_token, tokens_from, tokens_of}
use Rattle.spec_program.specs.Reading.{Read, got, stuck}
use Rattle.spec_program.specs.ReadPrograms.{FoundBlock, Stray, Parsed, program, faulty, fault_at, too_deep, tested_loops, tested, parsed_by, block, parsed}
use Rattle.spec_values_kept.specs.Nodes.{program_nodes, ParsedFew}
use Rattle.spec_values_kept.proofs.ReadFew.{worth, Spends}
use Rattle.spec_values_kept.proofs.StatementsFew.{BlockFew, blocks_few}

-- ---- tokens are no more than characters

tokens_few : (n line : ℕ) (t : Text) → length (tokens_from n line t) ≤ n
unfolding tokens_from
tokens_few zero line t = omega arith
tokens_few (suc n) line [] = omega arith
tokens_few (suc n) line (c ∷ t) = go (tokens_few n) (is_blank c)
  where
    one : ((l : ℕ) (u : Text) → length (tokens_from n l u) ≤ n) → (k : Token) (l : ℕ) (u : Text) → length (and_later (tokens_from n l) l k u) ≤ suc n
    one each (bad f) l u = omega arith
    one each k l u = let m : length (tokens_from n l u) ≤ n = each l u in omega (arith, m)

    go : ((l : ℕ) (u : Text) → length (tokens_from n l u) ≤ n) → (b : Bool) → length (blank_or_token b (tokens_from n) line c t) ≤ suc n
    go each true = let m : length (tokens_from n (line_after c line) t) ≤ n = each (line_after c line) t in omega (arith, m)
    go each false = one each (first_token c t).token line (first_token c t).rest

-- ---- the tree of a text

abbrev Few : ℕ → Parsed → Type 0
Few n (program p) = program_nodes p ≤ n
Few n (faulty f) = Unit {0}

fault_few : (n : ℕ) (all ts : List Placed) → Few n (fault_at all ts)
fault_few n all [] = tt
fault_few n all (p ∷ ts) = tt

tested_few : (n : ℕ) (p : FoundBlock) → program_nodes p.tree ≤ n → (o : Option ℕ) → Few n (tested p o)
tested_few n p h (Some line) = tt
tested_few n p h None = go p.strays
  where
    go : (ss : List Stray) → Few n (tested_loops p ss)
    go [] = h
    go (s ∷ ss) = tt

by_few : (n : ℕ) (all : List Placed) (r : Read FoundBlock) → Spends BlockFew n r → Few n (parsed_by all r)
unfolding Spends
by_few n all (stuck ts) h = fault_few n all ts
by_few n all (got p []) h =
    let l : h.0 + worth [] ≤ n = h.1 in let k : program_nodes p.tree ≤ h.0 = h.2 in tested_few n p (omega (arith, l, k)) (too_deep p.nodes)
by_few n all (got p (q ∷ ts)) h = fault_few n all (q ∷ ts)

whole_few : (t : Text) → Few (2 * length (tokens_of t)) (parsed t)
unfolding parsed
whole_few t = let ts : List Placed = tokens_of t in by_few (worth ts) ts (block (suc (suc (length ts))) ts) (blocks_few (suc (suc (length ts))) ts)

pub parsed_few : ParsedFew
parsed_few t p e =
    let h : program_nodes p ≤ 2 * length (tokens_of t) = subst (Few (2 * length (tokens_of t))) e (whole_few t) in
    let k : length (tokens_from (length t) 1 t) ≤ length t = tokens_few (length t) 1 t in omega (arith, h, k)
