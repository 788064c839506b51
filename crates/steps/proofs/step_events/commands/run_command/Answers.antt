use Rattle.std.proofs.Common.{◌≡◌, to_z, of_z, w32, rules}
use Rattle.std.proofs.lemmas.Int.{to_z-of_z}
use Rattle.spec_world.specs.World.{World}
use Rattle.spec_moo.specs.Steps.Events.{command_run, foreground_ticks}
use Rattle.player_commands.specs.Meanings.{command_of}
use Rattle.player_commands.specs.declared.command_parser.command.Command.{Command}
use Rattle.moo_task.specs.Deeds.{scene_of}
use Rattle.rules.proofs.Tellings.{if_ok_as}
use Rattle.steps.proofs.StepsPlaying.{plays_as, plays_here_as}
use Rattle.steps.specs.StepsPerformed.{came_to_of}
use Rattle.steps.proofs.step_events.commands.run_command.Goals as goal

pub returns-in-Empty-clause-played : goal.returns-in-Empty-clause-played
returns-in-Empty-clause-played g c =
    plays_here_as g.V.View.holds g.V.View.now c.args.view.now (λ (k : Command) (w : World). command_run (scene_of c.args.deeds.now w foreground_ticks) c.args.connection c.args.link.now.person (command_of k))
    c.args.command _ (came_to_of c.args.deeds.now c.nothing.result) c.in-Empty.is (λ w. c.nothing.ensures c.args.deeds.now w foreground_ticks)

pub returns-in-Program-clause-played : goal.returns-in-Program-clause-played
returns-in-Program-clause-played g c =
    let connection = to_z-of_z w32 c.args.connection c.ranges.connection in
    if_ok_as _ _
    (λ o played. plays_as g.V.View.holds g.V.View.now c.args.view.now c.request.new.view (λ (k : Command) (w : World). command_run (scene_of c.args.deeds.now w foreground_ticks) c.args.connection c.args.link.now.person (command_of k))
    c.args.command _ (came_to_of c.request.new.deeds o) c.in-Program.is played)
    c.request.result (rw connection at c.request.ensures.played)

pub returns-in-Verb-clause-played : goal.returns-in-Verb-clause-played
returns-in-Verb-clause-played g c =
    let person : to_z w32 (of_z w32 c.link.inside.person) ≡ c.args.link.now.person = search rules in
    if_ok_as _ _
    (λ o played. plays_as g.V.View.holds g.V.View.now c.args.view.now c.run_verb.new.view (λ (k : Command) (w : World). command_run (scene_of c.args.deeds.now w foreground_ticks) c.args.connection c.args.link.now.person (command_of k))
    c.args.command _ (came_to_of c.run_verb.new.deeds o) c.in-Verb.is (played c.args.connection))
    c.run_verb.result (rw person at c.run_verb.ensures.played)

pub returns-in-Huh-clause-played : goal.returns-in-Huh-clause-played
returns-in-Huh-clause-played g c =
    let person : to_z w32 (of_z w32 c.link.inside.person) ≡ c.args.link.now.person = search rules in
    if_ok_as _ _
    (λ o played. plays_as g.V.View.holds g.V.View.now c.args.view.now c.run_huh.new.view (λ (k : Command) (w : World). command_run (scene_of c.args.deeds.now w foreground_ticks) c.args.connection c.args.link.now.person (command_of k))
    c.args.command _ (came_to_of c.run_huh.new.deeds o) c.in-Huh.is (played c.args.connection))
    c.run_huh.result (rw person at c.run_huh.ensures.played)

pub returns-in-Unknown-clause-played : goal.returns-in-Unknown-clause-played
returns-in-Unknown-clause-played g c =
    let connection = to_z-of_z w32 c.args.connection c.ranges.connection in
    if_ok_as _ _
    (λ o played. plays_here_as g.V.View.holds g.V.View.now c.args.view.now (λ (k : Command) (w : World). command_run (scene_of c.args.deeds.now w foreground_ticks) c.args.connection c.args.link.now.person (command_of k))
    c.args.command _ (came_to_of c.says.new.deeds o) c.in-Unknown.is (λ w. played w foreground_ticks))
    c.says.result (rw connection at c.says.ensures)
