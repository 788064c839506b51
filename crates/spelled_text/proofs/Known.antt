-- A text that is the canonical lines of a tree has this tree.
use Rattle.std.proofs.Common.{◌≡◌, IsTrue, ap, ◌∙◌}
use Rattle.spec_value.specs.Datum.{Text}
use Rattle.spec_program.specs.Tree.{Program}
use Rattle.spec_program.specs.ReadPrograms.{program, parsed, joined_lines}
use Rattle.spec_program.specs.Spelling.{canonical_lines}
use Rattle.spec_program.specs.Trees.{is_tree}
use Rattle.spec_spelling.proofs.ProgramsCut.{lines_read_back}

pub known : (t : Text) (p : Program) → IsTrue (is_tree p) → t ≡ joined_lines (canonical_lines p) → parsed t ≡ program p
known t p fits is = ap parsed is ∙ lines_read_back p fits
