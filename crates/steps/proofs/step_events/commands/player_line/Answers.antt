use Rattle.std.proofs.Common.{◌≡◌, Some, ap, to_z, of_z, w32, rules}
use Rattle.std.proofs.lemmas.Int.{to_z-of_z}
use Rattle.spec_value.specs.Table.{at}
use Rattle.spec_world.specs.CommandLines.{command_said}
use Rattle.spec_moo.specs.Steps.Events.{player_line, command_run, foreground_ticks}
use Rattle.player_commands.specs.Meanings.{command_of}
use Rattle.rules.proofs.Tellings.{if_ok_as}
use Rattle.rules.proofs.InheritStanding.{agreeing_stands}
use Rattle.moo_task.specs.Deeds.{scene_of}
use Rattle.steps.proofs.StepsPlaying.{plays_then, ready_told, still}
use Rattle.steps.specs.StepsPerformed.{came_to_of}
use Rattle.steps.proofs.step_events.commands.player_line.Goals as goal

pub parse-requires-clause-well_formed : goal.parse-requires-clause-well_formed
parse-requires-clause-well_formed g c w h = agreeing_stands (g.V.View.now c.args.view.now w) (c.requires.ready w h 0).agrees.world

pub run_command-requires-clause-ready : goal.run_command-requires-clause-ready
run_command-requires-clause-ready g c =
    let person : to_z w32 (of_z w32 c.link.inside.person) ≡ c.args.link.now.person = search rules in
    ready_told g.V.View.holds g.V.View.now c.args.view.now c.parse.new.view (λ w. command_said w c.args.link.now.person c.args.text.now ≡ command_of c.in_ok-command.command) c.args.deeds.now c.requires.ready
    (rw person at c.in_ok-command.ensures.left)

pub run_command-requires-clause-link : goal.run_command-requires-clause-link
run_command-requires-clause-link g c =
    let person : to_z w32 (of_z w32 c.link.inside.person) ≡ c.args.link.now.person = search rules in
    rw (to_z-of_z w32 c.args.connection c.ranges.connection) (still g.V.View.holds g.V.View.now c.args.view.now c.parse.new.view
    (λ w. command_said w c.args.link.now.person c.args.text.now ≡ command_of c.in_ok-command.command) (λ w. at w.links c.args.connection ≡ Some c.args.link.now) c.requires.link
    (rw person at c.in_ok-command.ensures.left))

pub returns-clause-played : goal.returns-clause-played
returns-clause-played g c =
    let connection = to_z-of_z w32 c.args.connection c.ranges.connection in
    let person : to_z w32 (of_z w32 c.link.inside.person) ≡ c.args.link.now.person = search rules in
    if_ok_as _ _
    (λ o played. plays_then g.V.View.holds g.V.View.now c.args.view.now c.parse.new.view c.run_command.new.view (λ w. command_said w c.args.link.now.person c.args.text.now ≡ command_of c.in_ok-command.command)
    (λ w. player_line (scene_of c.args.deeds.now w foreground_ticks) c.args.connection c.args.link.now.person c.args.text.now)
    (λ w. command_run (scene_of c.args.deeds.now w foreground_ticks) c.args.connection c.args.link.now.person (command_of c.in_ok-command.command)) (came_to_of c.run_command.new.deeds o)
    (rw person at c.in_ok-command.ensures.left) played
    (λ w is. ap (command_run (scene_of c.args.deeds.now w foreground_ticks) c.args.connection c.args.link.now.person) is))
    c.run_command.result (rw connection at c.run_command.ensures.played)
