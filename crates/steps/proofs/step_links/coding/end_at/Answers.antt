use Rattle.std.proofs.Common.{◌≡◌, ℕ, Some, None, w32, to_z, of_z, rules}
use Rattle.std.specs.Prelude.{Option}
use Rattle.std.proofs.lemmas.Int.{to_z-of_z}
use Rattle.spec_world.specs.World.{World}
use Rattle.spec_moo.specs.Steps.Events.{foreground_ticks}
use Rattle.spec_moo.specs.Steps.Programming.{ends_at}
use Rattle.moo_task.specs.Deeds.{scene_of}
use Rattle.steps.proofs.StepsPlaying.{plays_as, plays_here_as}
use Rattle.steps.proofs.Codings.{has_at}
use Rattle.steps.specs.StepsPerformed.{came_to_of}
use Rattle.steps.proofs.step_links.coding.end_at.Goals as goal

pub end_with-requires-clause-there : goal.end_with-requires-clause-there
end_with-requires-clause-there g c w h =
    let object : to_z w32 (of_z w32 c.programming.inside.object) ≡ c.args.programming.now.object = search rules in
    rw object (has_at (g.V.View.now c.args.view.now w) c.args.programming.now.object c.args.place c.in-Some.place c.in-Some.is (c.requires.there w h))

pub returns-in_ok-outcome-in-Some-clause-played : goal.returns-in_ok-outcome-in-Some-clause-played
returns-in_ok-outcome-in-Some-clause-played g c =
    let object : to_z w32 (of_z w32 c.programming.inside.object) ≡ c.args.programming.now.object = search rules in
    let lines : c.programming.inside.lines ≡ c.args.programming.now.lines = search rules in
    plays_as g.V.View.holds g.V.View.now c.args.view.now c.end_with.new.view
    (λ (m : Option ℕ) (w : World). ends_at (scene_of c.args.deeds.now w foreground_ticks) c.args.connection c.args.programming.now m) c.args.place (Some c.in-Some.place)
    (came_to_of c.end_with.new.deeds c.in_ok-outcome-in-Some.outcome) c.in-Some.is (rw (to_z-of_z w32 c.args.connection c.ranges.connection, object, lines) at c.in_ok-outcome-in-Some.ensures.played)

pub returns-in_ok-outcome-in-None-clause-played : goal.returns-in_ok-outcome-in-None-clause-played
returns-in_ok-outcome-in-None-clause-played g c =
    plays_here_as g.V.View.holds g.V.View.now c.args.view.now
    (λ (m : Option ℕ) (w : World). ends_at (scene_of c.args.deeds.now w foreground_ticks) c.args.connection c.args.programming.now m) c.args.place None
    (came_to_of c.says.new.deeds c.in_ok-outcome-in-None.outcome) c.in-None.is (λ w. (rw (to_z-of_z w32 c.args.connection c.ranges.connection) at c.in_ok-outcome-in-None.ensures) w foreground_ticks)
