use Rattle.std.proofs.Common.{arith}
use Rattle.speculate.proofs.Strands.{lanes_more, lanes_all}
use Rattle.speculate.proofs.weaving.are_apart.Goals as goal

pub one-init : goal.one-init
one-init c i below = absurd (omega (arith, below))

pub one-preserved : goal.one-preserved
one-preserved c = lanes_more c.args.lanes.now c.one.one c.one.invariant (c.is_apart.ensures c.if-not-is_apart.false)

pub returns : goal.returns
returns c done = lanes_all c.args.lanes.now c.one.one (omega arith) c.one.invariant
