use Rattle.moo_arith.proofs.Parts.{behind_is}
use Rattle.moo_arith.proofs.scatter.behind.Goals as goal

pub returns : goal.returns
returns c = behind_is c.args.items.now c.args.count c.min.result c.min.ensures
