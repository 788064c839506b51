use Rattle.std.proofs.Common.{arith}
use Rattle.moo_script.proofs.Digits.{ended}
use Rattle.moo_script.proofs.number.read_digits.Goals as goal

pub returns : goal.returns
returns c = ended c.args.digits.now c.loop-digit.digit-index c.loop-digit.sum (omega (arith, c.loop-digit-test.false, c.loop-digit.auto.digit-index-end)) c.loop-digit.invariant
