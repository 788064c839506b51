use Rattle.std.proofs.Common.{◌≡◌, drop}
use Rattle.task_step.specs.Numbers.{number_on}
use Rattle.task_step.proofs.list.do_number_on.Given as goal

abbrev pub invariant-loop-step : goal.invariant-loop-step
invariant-loop-step l = number_on l.number (drop l.step-index l.steps) ≡ number_on l.next l.steps
