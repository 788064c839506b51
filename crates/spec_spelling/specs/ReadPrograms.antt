-- A program is read back from the tokens of its canonical spelling.
use Rattle.std.specs.Prelude.{◌≡◌, List, [], IsTrue}
use Rattle.spec_program.specs.Tree.{Program}
use Rattle.spec_program.specs.Tokens.{Placed}
use Rattle.spec_program.specs.ReadPrograms.{program, parsed_tokens}
use Rattle.spec_program.specs.Trees.{is_tree}
use Rattle.spec_program.specs.CanonicalTokens.{Laid}
use Rattle.spec_spelling.specs.ProgramTokens.{program_tokens}

-- a tree of the grammar is the one tree of its tokens, on whatever lines they stand
abbrev pub ProgramReadBack : Type 0
ProgramReadBack = (p : Program) (ts : List Placed) → IsTrue (is_tree p) → Laid (program_tokens p) ts [] → parsed_tokens ts ≡ program p
