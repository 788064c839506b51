use Rattle.std.proofs.Common.{◌≡◌, map, take}
use Rattle.moo_task.specs.Deeds.{told_of}
use Rattle.task_step.specs.OutcomeView.{lines_of}
use Rattle.steps.proofs.step_tasks.outcome.output_lines.Given as goal

abbrev pub invariant-loop-told : goal.invariant-loop-told
invariant-loop-told l = lines_of l.lines.items ≡ map told_of (take l.told-index l.output)
