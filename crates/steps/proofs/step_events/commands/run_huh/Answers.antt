use Rattle.std.proofs.Common.{◌≡◌, ap, ℤ, codes, w32, rules}
use Rattle.std.proofs.lemmas.Int.{to_z-of_z}
use Rattle.spec_value.specs.Datum.{of_list}
use Rattle.spec_world.specs.World.{object_at}
use Rattle.spec_world.specs.Naming.{location_of}
use Rattle.spec_world.specs.CommandLines.{calls_huh}
use Rattle.spec_moo.specs.Natives.Properties.{as_texts}
use Rattle.spec_moo.specs.Steps.Running.{begun, run, came_to}
use Rattle.spec_moo.specs.Steps.Events.{command_run, command_call, command_start, foreground_ticks}
use Rattle.player_commands.specs.CommandLinesMeant.{parts_of}
use Rattle.player_commands.specs.Meanings.{named_of}
use Rattle.moo_task.specs.Deeds.{scene_of}
use Rattle.rules.proofs.Tellings.{if_ok_as}
use Rattle.steps.proofs.StepsPlaying.{plays_then, ready_told}
use Rattle.steps.specs.StepsPerformed.{came_to_of}
use Rattle.steps.proofs.step_events.commands.run_huh.Goals as goal

pub play_task-requires-clause-ready : goal.play_task-requires-clause-ready
play_task-requires-clause-ready g c =
    ready_told g.V.View.holds g.V.View.now c.args.view.now c.location.new.view (λ w. location_of (object_at w c.args.player) ≡ c.in_ok-room.room) c.args.deeds.now c.requires.ready
    (rw (to_z-of_z w32 c.args.player c.ranges.player) at c.in_ok-room.ensures.left)

pub play_task-requires-clause-runs : goal.play_task-requires-clause-runs
play_task-requires-clause-runs g c =
    let p = parts_of c.args.said.parts in
    let f = c.args.found.now in
    let player = to_z-of_z w32 c.args.player c.ranges.player in
    let call : c.command_call-call.result ≡ command_call c.args.player c.in_ok-room.room (codes "huh") f = search rules in (
      begun c.args.player (command_call c.args.player c.in_ok-room.room (codes "huh") f) p.verb (command_start p (named_of c.args.said)) (of_list (as_texts p.args)) (f.verb).program,
      rw (player, call, c.in_ok-program.ensures) at c.in_ok-task.ensures.runs,
    )

pub returns-clause-played : goal.returns-clause-played
returns-clause-played g c =
    let view = g.V.View in
    let p = parts_of c.args.said.parts in
    let f = c.args.found.now in
    let player = to_z-of_z w32 c.args.player c.ranges.player in
    let call : c.command_call-call.result ≡ command_call c.args.player c.in_ok-room.room (codes "huh") f = search rules in
    let task = λ (room : ℤ). begun c.args.player (command_call c.args.player room (codes "huh") f) p.verb (command_start p (named_of c.args.said)) (of_list (as_texts p.args)) (f.verb).program in
    if_ok_as _ _
    (λ o played n. plays_then view.holds view.now c.args.view.now c.location.new.view c.play_task.new.view (λ w. location_of (object_at w c.args.player) ≡ c.in_ok-room.room)
    (λ w. command_run (scene_of c.args.deeds.now w foreground_ticks) n c.args.player (calls_huh p (named_of c.args.said) f))
    (λ w. came_to (run (scene_of c.args.deeds.now w foreground_ticks) (task c.in_ok-room.room))) (came_to_of c.play_task.new.deeds o) (rw player at c.in_ok-room.ensures.left)
    (rw c.in_ok-task.ensures.ticks at (played (task c.in_ok-room.room) (rw (player, call, c.in_ok-program.ensures) at c.in_ok-task.ensures.runs)))
    (λ w is. ap (λ (room : ℤ). came_to (run (scene_of c.args.deeds.now w foreground_ticks) (task room))) is))
    c.play_task.result c.play_task.ensures.played
