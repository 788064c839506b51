use Rattle.std.proofs.Common.{◌≡◌, drop}
use Rattle.spec_value.specs.Literal.{escaped}
use Rattle.slot_content.proofs.writing.is_plain.Given as goal

abbrev pub invariant-loop-byte : goal.invariant-loop-byte
invariant-loop-byte l = escaped (drop l.byte-index l.byte-items) ≡ drop l.byte-index l.byte-items → escaped l.byte-items ≡ l.byte-items
