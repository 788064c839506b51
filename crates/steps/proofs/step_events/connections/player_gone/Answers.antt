use Rattle.std.proofs.Common.{◌≡◌, ◌∙◌, Some, None, [], ap, codes, w32}
use Rattle.std.proofs.lemmas.Int.{to_z-of_z}
use Rattle.spec_value.specs.Datum.{no_data, item, object}
use Rattle.spec_world.specs.VerbsSought.{find_verb}
use Rattle.spec_moo.specs.Steps.Running.{run, came_to, system, system_task}
use Rattle.spec_moo.specs.Steps.Events.{told_gone, foreground_ticks}
use Rattle.rules.proofs.InheritStanding.{agreeing_stands}
use Rattle.moo_task.specs.Deeds.{scene_of}
use Rattle.view.specs.Law.{Goes}
use Rattle.steps.proofs.StepsPlaying.{plays_told, plays_then, ready_told}
use Rattle.steps.specs.StepsPerformed.{came_to_of}
use Rattle.steps.proofs.step_events.connections.player_gone.Goals as goal

pub on_system-requires-clause-well_formed : goal.on_system-requires-clause-well_formed
on_system-requires-clause-well_formed g c w h = agreeing_stands (g.V.View.now c.args.view.now w) (c.requires.ready w h 0).agrees.world

pub play_task-requires-clause-ready : goal.play_task-requires-clause-ready
play_task-requires-clause-ready g c =
    ready_told g.V.View.holds g.V.View.now c.args.view.now c.on_system.new.view (λ w. find_verb w system (codes "user_disconnected") ≡ c.in_ok-found.found) c.args.deeds.now c.requires.ready
    c.in_ok-found.ensures.left

pub play_task-requires-clause-runs : goal.play_task-requires-clause-runs
play_task-requires-clause-runs g c = (system_task c.args.player (codes "user_disconnected") [] (item (object c.args.player) no_data) c.in-Some.found, rw (to_z-of_z w32 c.args.player c.ranges.player) at c.in_ok-task-in-Some.ensures.runs)

pub returns-in_ok-outcome-in-Some-clause-played : goal.returns-in_ok-outcome-in-Some-clause-played
returns-in_ok-outcome-in-Some-clause-played g c =
    let view = g.V.View in
    let player = to_z-of_z w32 c.args.player c.ranges.player in
    let p = system_task c.args.player (codes "user_disconnected") [] (item (object c.args.player) no_data) c.in-Some.found in
    let rest = c.in_ok-outcome-in-Some.ensures.played p (rw player at c.in_ok-task-in-Some.ensures.runs) in
    let ran : Goes view.holds view.now c.on_system.new.view c.play_task.new.view (λ before after. came_to (run (scene_of c.args.deeds.now before foreground_ticks) p) ≡ came_to_of c.play_task.new.deeds c.in_ok-outcome-in-Some.outcome after) = rw c.in_ok-task-in-Some.ensures.ticks at rest in
    plays_then view.holds view.now c.args.view.now c.on_system.new.view c.play_task.new.view (λ w. find_verb w system (codes "user_disconnected") ≡ Some c.in-Some.found)
    (λ w. told_gone (scene_of c.args.deeds.now w foreground_ticks) c.args.player (find_verb w system (codes "user_disconnected")))
    (λ w. came_to (run (scene_of c.args.deeds.now w foreground_ticks) p)) (came_to_of c.play_task.new.deeds c.in_ok-outcome-in-Some.outcome) (rw c.in-Some.is at c.in_ok-found.ensures.left) ran
    (λ w found. ap (told_gone (scene_of c.args.deeds.now w foreground_ticks) c.args.player) found)

pub returns-in-None-clause-played : goal.returns-in-None-clause-played
returns-in-None-clause-played g c =
    plays_told g.V.View.holds g.V.View.now c.args.view.now c.on_system.new.view (λ w. find_verb w system (codes "user_disconnected") ≡ None)
    (λ w. told_gone (scene_of c.args.deeds.now w foreground_ticks) c.args.player (find_verb w system (codes "user_disconnected"))) (came_to_of c.args.deeds.now c.nothing.result)
    (rw c.in-None.is at c.in_ok-found.ensures.left)
    (λ w found. ap (told_gone (scene_of c.args.deeds.now w foreground_ticks) c.args.player) found ∙ c.nothing.ensures c.args.deeds.now w foreground_ticks)
