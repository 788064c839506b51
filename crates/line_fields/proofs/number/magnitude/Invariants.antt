use Rattle.std.proofs.Common.{◌≡◌, drop}
use Rattle.line_fields.specs.Numbers.{magnitude_behind}
use Rattle.line_fields.proofs.number.magnitude.Given as goal

abbrev pub invariant-loop-digit : goal.invariant-loop-digit
invariant-loop-digit l = magnitude_behind l.number (drop l.digit-index l.digits) ≡ magnitude_behind 0 l.digits
