use Rattle.std.proofs.Common.{◌≡◌, List, Some, None, w32, rules}
use Rattle.std.specs.Prelude.{Option}
use Rattle.std.proofs.lemmas.Int.{to_z-of_z}
use Rattle.spec_value.specs.Datum.{Text}
use Rattle.spec_world.specs.World.{World}
use Rattle.spec_moo.specs.Steps.Events.{foreground_ticks}
use Rattle.spec_moo.specs.Steps.Programming.{ends_with}
use Rattle.moo_task.specs.Deeds.{scene_of}
use Rattle.steps.proofs.StepsPlaying.{plays_as, plays_here_as}
use Rattle.steps.specs.StepsPerformed.{came_to_of}
use Rattle.steps.proofs.step_links.coding.end_with.Goals as goal

pub put_lines-requires-clause-there : goal.put_lines-requires-clause-there
put_lines-requires-clause-there g c w h = rw (to_z-of_z w32 c.args.object c.ranges.object) (c.requires.there w h)

pub returns-in_ok-outcome-in-Some-clause-played : goal.returns-in_ok-outcome-in-Some-clause-played
returns-in_ok-outcome-in-Some-clause-played g c =
    let is : c.args.lines.now ≡ Some c.in-Some.lines = search rules in
    plays_as g.V.View.holds g.V.View.now c.args.view.now c.put_lines.new.view
    (λ (m : Option (List Text)) (w : World). ends_with (scene_of c.args.deeds.now w foreground_ticks) c.args.connection c.args.object c.args.place m) c.args.lines.now (Some c.in-Some.lines)
    (came_to_of c.put_lines.new.deeds c.in_ok-outcome-in-Some.outcome) is (rw (to_z-of_z w32 c.args.connection c.ranges.connection, to_z-of_z w32 c.args.object c.ranges.object, c.as_slice.ensures) at c.in_ok-outcome-in-Some.ensures.played)

pub returns-in_ok-outcome-in-None-clause-played : goal.returns-in_ok-outcome-in-None-clause-played
returns-in_ok-outcome-in-None-clause-played g c =
    let is : c.args.lines.now ≡ None = search rules in
    plays_here_as g.V.View.holds g.V.View.now c.args.view.now
    (λ (m : Option (List Text)) (w : World). ends_with (scene_of c.args.deeds.now w foreground_ticks) c.args.connection c.args.object c.args.place m) c.args.lines.now None
    (came_to_of c.says.new.deeds c.in_ok-outcome-in-None.outcome) is (λ w. (rw (to_z-of_z w32 c.args.connection c.ranges.connection) at c.in_ok-outcome-in-None.ensures) w foreground_ticks)
