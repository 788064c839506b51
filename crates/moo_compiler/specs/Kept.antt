-- Programs that are kept as texts.
use Rattle.std.specs.Prelude.{◌≡◌, length, string_bytes}
use Rattle.spec_value.specs.Datum.{Text}
use Rattle.spec_program.specs.Tree.{Program}
use Rattle.spec_program.specs.ReadPrograms.{program, parsed, joined_lines}
use Rattle.spec_program.specs.Spelling.{canonical_lines}
use Rattle.moo_compiler.specs.declared.program.Kept.{Kept}

-- the tree's canonical text
pub record Spells (t : Text) (p : Program) : Type 0 where
  pub read : parsed t ≡ program p
  pub lines : t ≡ joined_lines (canonical_lines p)

-- what is kept of a program: its text, in how many lines, and room for the program with its code
pub record IsKept (k : Kept) : Type 0 where
  pub spells : Spells (string_bytes k.text) k.tree.value
  pub count : k.lines ≡ length (canonical_lines k.tree.value)
  pub room : k.whole.tag ≡ string_bytes k.text
