use Rattle.std.proofs.Common.{◌≡◌, ◌&&◌, drop}
use Rattle.spec_value.specs.Datum.{is_text}
use Rattle.line_fields.proofs.quoted.are_characters.Given as goal

abbrev pub invariant-loop-byte : goal.invariant-loop-byte
invariant-loop-byte l = (l.all && is_text (drop l.byte-index l.bytes)) ≡ is_text l.bytes
