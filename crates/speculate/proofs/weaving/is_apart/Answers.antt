use Rattle.std.proofs.Common.{arith}
use Rattle.speculate.proofs.Strands.{pair_more, pair_all}
use Rattle.speculate.proofs.weaving.is_apart.Goals as goal

pub other-init : goal.other-init
other-init c j below = absurd (omega (arith, below))

pub other-preserved : goal.other-preserved
other-preserved c = pair_more c.args.lanes.now c.args.one c.other.other c.other.invariant (c.are_pair_apart.ensures c.if-not-are_pair_apart.false)

pub returns : goal.returns
returns c done = pair_all c.args.lanes.now c.args.one c.other.other (omega arith) c.other.invariant
