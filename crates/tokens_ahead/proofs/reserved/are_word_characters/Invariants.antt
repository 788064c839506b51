use Rattle.std.proofs.Common.{◌≡◌, drop}
use Rattle.std.specs.List.{list_all}
use Rattle.spec_program.specs.Names.{is_word_character}
use Rattle.tokens_ahead.proofs.reserved.are_word_characters.Given as goal

abbrev pub invariant-loop-byte : goal.invariant-loop-byte
invariant-loop-byte l = list_all is_word_character l.bytes ≡ list_all is_word_character (drop l.byte-index l.bytes)
