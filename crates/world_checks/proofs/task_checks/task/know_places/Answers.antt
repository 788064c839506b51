use Rattle.world_checks.proofs.TaskTold.{task_stands}
use Rattle.world_checks.proofs.task_checks.task.know_places.Goals as goal

pub returns-clause-places : goal.returns-clause-places
returns-clause-places c = task_stands _ _ _ _ c.verbs-verbs.ensures.task c.verbs-verbs.ensures.kept
