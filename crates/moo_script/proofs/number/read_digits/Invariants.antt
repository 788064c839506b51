use Rattle.std.proofs.Common.{◌≡◌, drop}
use Rattle.moo_script.proofs.Digits.{sum_on}
use Rattle.moo_script.proofs.number.read_digits.Given as goal

abbrev pub invariant-loop-digit : goal.invariant-loop-digit
invariant-loop-digit l = sum_on l.sum (drop l.digit-index l.digits) ≡ sum_on 0 l.digits
