use Rattle.std.proofs.Common.{◌≡◌, map, take}
use Rattle.moo_task.specs.Deeds.{queued_of as queued_meant}
use Rattle.task_step.specs.OutcomeView.{queued_of}
use Rattle.steps.proofs.step_tasks.outcome.queued_tasks.Given as goal

abbrev pub invariant-loop-task : goal.invariant-loop-task
invariant-loop-task l = queued_of l.tasks.items ≡ map queued_meant (take l.task-index l.queued)
