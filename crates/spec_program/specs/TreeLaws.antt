-- The tree of a text is a program's tree.
use Rattle.std.specs.Prelude.{◌≡◌, [], IsTrue}
use Rattle.spec_value.specs.Datum.{Text}
use Rattle.spec_program.specs.Tree.{Program}
use Rattle.spec_program.specs.ReadPrograms.{program, parsed}
use Rattle.spec_program.specs.Trees.{program_fits, is_tree}

-- it has names, literals, brackets, items and loops as programs have them
abbrev pub ParsedFits : Type 0
ParsedFits = (t : Text) (p : Program) → parsed t ≡ program p → IsTrue (program_fits [] p)

-- and no path of more than 100 statements and expressions: it is a program's tree altogether
abbrev pub ParsedIsTree : Type 0
ParsedIsTree = (t : Text) (p : Program) → parsed t ≡ program p → IsTrue (is_tree p)
