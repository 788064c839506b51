use Rattle.moo_value.proofs.Sameness.{equal_is}
use Rattle.local_code.proofs.moo_unwind.codes.is_equal.Goals as goal

pub returns : goal.returns
returns c = equal_is c.args.left.now c.args.right.now c.equal.result c.equal.ensures
