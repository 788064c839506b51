use Rattle.std.proofs.Common.{◌≡◌, ◌++◌, drop, string_bytes}
use Rattle.spec_value.specs.Literal.{escaped}
use Rattle.slot_content.proofs.writing.put_escaped.Given as goal

abbrev pub invariant-loop-byte : goal.invariant-loop-byte
invariant-loop-byte l = string_bytes l.out ++ escaped (drop l.byte-index l.byte-items) ≡ string_bytes l.fn.out ++ escaped l.byte-items
