-- Texts of programs: each is its program's, and no other program has it.
use Rattle.std.proofs.Common.{◌≡◌, List, [], ◌∷◌, ◌++◌, IsTrue, refl, ap, sym, ◌∙◌}
use Rattle.spec_value.specs.Datum.{Text}
use Rattle.spec_program.specs.Tree.{Program}
use Rattle.spec_program.specs.Trees.{is_tree, program_fits}
use Rattle.spec_program.specs.ReadPrograms.{program, parsed, joined_lines}
use Rattle.spec_program.specs.Spelling.{canonical_lines}
use Rattle.spec_program.proofs.ParsedFits.{parsed_fits}
use Rattle.spec_spelling.proofs.ProgramsCut.{lines_read_back}
use Rattle.spec_world.specs.Checkpoint.{with_line_ends}
use Rattle.moo_compiler.specs.Kept.{Spells}

pub ends_joined : (ts : List Text) → with_line_ends ts ≡ joined_lines ts
ends_joined [] = refl
ends_joined (t ∷ ts) = ap (λ r. t ++ (10 ∷ r)) (ends_joined ts)

pub spells : (t : Text) (p : Program) → IsTrue (is_tree p) → t ≡ joined_lines (canonical_lines p) → Spells t p
spells t p fits is = record { read = ap parsed is ∙ lines_read_back p fits; lines = is }

one_program : (p q : Program) → program p ≡ program q → p ≡ q
one_program p q e = cc

pub one_read : (t u : Text) (p q : Program) → t ≡ u → parsed t ≡ program p → parsed u ≡ program q → p ≡ q
one_read t u p q e a b = one_program p q (sym a ∙ ap parsed e ∙ b)

pub kept_fits : (t : Text) (p : Program) → Spells t p → IsTrue (program_fits [] p)
kept_fits t p s = parsed_fits t p s.read
