use Rattle.world_checks.proofs.Fits.{some_arm}
use Rattle.world_checks.proofs.tree_checks.statement.has_arm.Goals as goal

pub returns-in-len1-up : goal.returns-in-len1-up
returns-in-len1-up c = some_arm c.args.arms.now c.in-len1-up.len_at_least
