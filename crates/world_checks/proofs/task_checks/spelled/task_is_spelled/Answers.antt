use Rattle.std.proofs.Common.{sym, subst}
use Rattle.world_checks.specs.Waiting.{AllSpelled}
use Rattle.world_checks.proofs.TaskTold.{spelled_told}
use Rattle.world_checks.proofs.Respelled.{spelled_there}
use Rattle.world_checks.proofs.task_checks.spelled.task_is_spelled.Goals as goal

pub returns-clause-tells : goal.returns-clause-tells
returns-clause-tells c = λ spelled. spelled_told _ _ _ _ c.verbs-verbs.ensures.task (subst AllSpelled c.as_slice.ensures (c.in_ok-spelled.ensures.tells spelled))

pub returns-clause-finds : goal.returns-clause-finds
returns-clause-finds c h = c.in_ok-spelled.ensures.finds (subst AllSpelled (sym c.as_slice.ensures) (spelled_there _ _ _ _ c.verbs-verbs.ensures.task c.verbs-verbs.ensures.kept h))
