use Rattle.std.proofs.Common.{◌≡◌, take}
use Rattle.task_step.proofs.copies.copied.Given as goal

abbrev pub invariant-step : goal.invariant-step
invariant-step l = l.all.items ≡ take l.step-index l.steps
