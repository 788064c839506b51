use Rattle.running.proofs.Entering.{enters_found}
use Rattle.running.proofs.moo_objects.calling.enters_above.Goals as goal

pub returns-clause-left : goal.returns-clause-left
returns-clause-left c a s = enters_found a c.args.call.now s c.args.found c.in_ok-entered.entered c.args.arguments c.in_ok-entered.ensures
