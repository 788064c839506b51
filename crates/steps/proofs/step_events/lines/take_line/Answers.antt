use Rattle.std.proofs.Common.{◌≡◌, Some, None, w32, rules}
use Rattle.std.proofs.lemmas.Int.{to_z-of_z}
use Rattle.std.specs.Prelude.{Option}
use Rattle.spec_world.specs.World.{World, Programming}
use Rattle.spec_moo.specs.Steps.Events.{line_taken, foreground_ticks}
use Rattle.moo_task.specs.Deeds.{scene_of}
use Rattle.rules.proofs.Tellings.{if_ok_as}
use Rattle.steps.proofs.StepsPlaying.{plays_as}
use Rattle.steps.specs.StepsPerformed.{came_to_of}
use Rattle.steps.proofs.step_events.lines.take_line.Goals as goal

pub returns-in-Some-clause-played : goal.returns-in-Some-clause-played
returns-in-Some-clause-played g c =
    let is : c.args.link.now.programming ≡ Some c.in-Some.programming = search rules in
    if_ok_as _ _
    (λ o played. plays_as g.V.View.holds g.V.View.now c.args.view.now c.collect.new.view
    (λ (p : Option Programming) (w : World). line_taken (scene_of c.args.deeds.now w foreground_ticks) c.args.connection c.args.link.now c.args.text.now p) c.args.link.now.programming (Some c.in-Some.programming)
    (came_to_of c.collect.new.deeds o) is played)
    c.collect.result (rw (to_z-of_z w32 c.args.connection c.ranges.connection) at c.collect.ensures.played)

pub returns-in-None-clause-played : goal.returns-in-None-clause-played
returns-in-None-clause-played g c =
    let is : c.args.link.now.programming ≡ None = search rules in
    if_ok_as _ _
    (λ o played. plays_as g.V.View.holds g.V.View.now c.args.view.now c.read_line.new.view
    (λ (p : Option Programming) (w : World). line_taken (scene_of c.args.deeds.now w foreground_ticks) c.args.connection c.args.link.now c.args.text.now p) c.args.link.now.programming None
    (came_to_of c.read_line.new.deeds o) is played)
    c.read_line.result (rw (to_z-of_z w32 c.args.connection c.ranges.connection) at c.read_line.ensures.played)
