use Rattle.std.proofs.Common.{◌≡◌, to_z, of_z, w32, rules}
use Rattle.std.proofs.lemmas.Int.{to_z-of_z}
use Rattle.spec_world.specs.World.{World}
use Rattle.spec_moo.specs.Steps.Events.{foreground_ticks}
use Rattle.player_commands.specs.Openings.{opened}
use Rattle.player_commands.specs.declared.command_parser.programming.Opening.{Opening}
use Rattle.moo_task.specs.Deeds.{scene_of}
use Rattle.steps.proofs.StepsPlaying.{plays_as, plays_here_as}
use Rattle.steps.specs.StepsPerformed.{came_to_of}
use Rattle.steps.proofs.step_links.programming.answer.Goals as goal

pub returns-in_ok-outcome-in-OtherForm-clause-played : goal.returns-in_ok-outcome-in-OtherForm-clause-played
returns-in_ok-outcome-in-OtherForm-clause-played g c =
    let connection = to_z-of_z w32 c.args.connection c.ranges.connection in
    plays_here_as g.V.View.holds g.V.View.now c.args.view.now (λ (k : Opening) (w : World). opened (scene_of c.args.deeds.now w foreground_ticks) c.args.connection c.args.link.now.person k) c.args.opening _
    (came_to_of c.says.new.deeds c.in_ok-outcome-in-OtherForm.outcome) c.in-OtherForm.is (λ w. (rw connection at c.in_ok-outcome-in-OtherForm.ensures) w foreground_ticks)

pub returns-in_ok-outcome-in-NotSeen-clause-played : goal.returns-in_ok-outcome-in-NotSeen-clause-played
returns-in_ok-outcome-in-NotSeen-clause-played g c =
    let connection = to_z-of_z w32 c.args.connection c.ranges.connection in
    plays_here_as g.V.View.holds g.V.View.now c.args.view.now (λ (k : Opening) (w : World). opened (scene_of c.args.deeds.now w foreground_ticks) c.args.connection c.args.link.now.person k) c.args.opening _
    (came_to_of c.says-in-NotSeen.new.deeds c.in_ok-outcome-in-NotSeen.outcome) c.in-NotSeen.is (λ w. (rw connection at c.in_ok-outcome-in-NotSeen.ensures) w foreground_ticks)

pub returns-in_ok-outcome-in-NotAllowed-clause-played : goal.returns-in_ok-outcome-in-NotAllowed-clause-played
returns-in_ok-outcome-in-NotAllowed-clause-played g c =
    let connection = to_z-of_z w32 c.args.connection c.ranges.connection in
    plays_here_as g.V.View.holds g.V.View.now c.args.view.now (λ (k : Opening) (w : World). opened (scene_of c.args.deeds.now w foreground_ticks) c.args.connection c.args.link.now.person k) c.args.opening _
    (came_to_of c.says-in-NotAllowed.new.deeds c.in_ok-outcome-in-NotAllowed.outcome) c.in-NotAllowed.is (λ w. (rw connection at c.in_ok-outcome-in-NotAllowed.ensures) w foreground_ticks)

pub returns-in_ok-outcome-in-Collects-clause-played : goal.returns-in_ok-outcome-in-Collects-clause-played
returns-in_ok-outcome-in-Collects-clause-played g c =
    let connection = to_z-of_z w32 c.args.connection c.ranges.connection in
    let object : to_z w32 (of_z w32 c.in-Collects.object) ≡ c.in-Collects.object = search rules in
    plays_as g.V.View.holds g.V.View.now c.args.view.now c.begin_lines.new.view (λ (k : Opening) (w : World). opened (scene_of c.args.deeds.now w foreground_ticks) c.args.connection c.args.link.now.person k)
    c.args.opening _ (came_to_of c.begin_lines.new.deeds c.in_ok-outcome-in-Collects.outcome) c.in-Collects.is (rw (connection, object) at c.in_ok-outcome-in-Collects.ensures.played)
