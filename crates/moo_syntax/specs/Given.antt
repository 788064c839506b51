-- The tokens that a reader is given, as those of the definitions.
use Rattle.std.specs.Prelude.{ℕ, List, [], ◌∷◌, Option, Some, None}
use Rattle.spec_program.specs.Tokens as meant
use Rattle.spec_program.specs.ReadPrograms.{FoundBlock}
use Rattle.moo_token.specs.declared.token.Placed.{Placed}
use Rattle.moo_token.specs.declared.tokens.Tokens.{Tokens}
use Rattle.moo_token.specs.Views.{places, ending_of}
use Rattle.moo_token.specs.Meaning.{all_meant}
use Rattle.moo_reader.specs.declared.block.Block.{Block}
use Rattle.moo_reader.specs.BlockViews.{block_found}

abbrev pub given : Tokens → List meant.Placed
given ts = all_meant (places ts.tokens.items) (ending_of ts.fault)

abbrev pub next_line : List Placed → Option ℕ
next_line [] = None
next_line (p ∷ ps) = Some p.line

abbrev pub block_if : Option Block → Option FoundBlock
block_if None = None
block_if (Some p) = Some (block_found p)
