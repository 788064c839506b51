use Rattle.std.proofs.Common.{◌≡◌, [], w32, rules}
use Rattle.std.proofs.lemmas.Int.{to_z-of_z}
use Rattle.spec_value.specs.Datum.{no_data, item, object}
use Rattle.steps.proofs.step_events.connections.farewell.Goals as goal

pub returns-clause-runs : goal.returns-clause-runs
returns-clause-runs c =
    let player = to_z-of_z w32 c.args.player c.ranges.player in
    let argstr : c.in_ok-argstr.argstr ≡ [] = search rules in
    rw (player, argstr) at (c.in_ok-task.ensures.runs (item (object c.args.player) no_data) (rw player at c.in_ok-arguments.ensures))
