use Rattle.std.proofs.Common.{◌≡◌, take}
use Rattle.task_step.specs.OutcomeView.{closed_of}
use Rattle.steps.proofs.step_tasks.outcome.closed_connections.Given as goal

abbrev pub invariant-loop-connection : goal.invariant-loop-connection
invariant-loop-connection l = closed_of l.connections.items ≡ take l.connection-index l.closed
