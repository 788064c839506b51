use Rattle.moo_value.proofs.Sameness.{alike_is}
use Rattle.moo_arith.proofs.binary.is_alike.Goals as goal

pub returns : goal.returns
returns c = alike_is c.args.left.now c.args.right.now c.same.result c.same.ensures
