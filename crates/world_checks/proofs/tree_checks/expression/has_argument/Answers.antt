use Rattle.world_checks.proofs.Fits.{some_argument}
use Rattle.world_checks.proofs.tree_checks.expression.has_argument.Goals as goal

pub returns-in-len1-up : goal.returns-in-len1-up
returns-in-len1-up c = some_argument c.args.arguments.now c.in-len1-up.len_at_least
