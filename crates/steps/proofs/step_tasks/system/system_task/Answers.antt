use Rattle.std.proofs.Common.{w32}
use Rattle.std.proofs.lemmas.Int.{to_z-of_z}
use Rattle.steps.proofs.step_tasks.system.system_task.Goals as goal

pub returns-clause-runs : goal.returns-clause-runs
returns-clause-runs c args is =
    rw (c.in_ok-called.ensures, c.in_ok-name.ensures, c.in_ok-start.ensures, c.in_ok-program.ensures, to_z-of_z w32 c.args.caller c.ranges.caller) at (c.in_ok-task.ensures.runs args is)
