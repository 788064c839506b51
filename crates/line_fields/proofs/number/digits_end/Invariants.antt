use Rattle.std.proofs.Common.{◌≡◌, ◌+◌, drop}
use Rattle.moo_value.specs.Read.{digit_run}
use Rattle.line_fields.proofs.number.digits_end.Given as goal

abbrev pub invariant-loop-byte : goal.invariant-loop-byte
invariant-loop-byte l = (l.count ≡ l.byte-index) × (l.count + digit_run (drop l.byte-index l.bytes) ≡ digit_run l.bytes)
