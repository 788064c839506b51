use Rattle.std.proofs.Common.{◌≡◌, drop}
use Rattle.spec_value.specs.Datum.{is_text}
use Rattle.quick_reader.proofs.word.are_characters.Given as goal

abbrev pub invariant-loop-byte : goal.invariant-loop-byte
invariant-loop-byte l = is_text l.bytes ≡ is_text (drop l.byte-index l.bytes)
