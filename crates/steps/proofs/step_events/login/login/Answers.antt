use Rattle.std.proofs.Common.{◌≡◌, ◌∙◌, Some, None, ap, codes, w32}
use Rattle.std.proofs.lemmas.Int.{to_z-of_z}
use Rattle.spec_world.specs.Links.{connection_object}
use Rattle.spec_world.specs.VerbsSought.{find_verb}
use Rattle.spec_moo.specs.Steps.Running.{run, system, system_task}
use Rattle.spec_moo.specs.Steps.Events.{login, login_with, after_login, foreground_ticks}
use Rattle.rules.proofs.InheritStanding.{agreeing_stands}
use Rattle.moo_task.specs.Deeds.{scene_of}
use Rattle.steps.proofs.StepsPlaying.{plays_told, plays_then, ready_told}
use Rattle.steps.specs.StepsPerformed.{came_to_of}
use Rattle.steps.proofs.step_events.login.login.Goals as goal

pub on_system-requires-clause-well_formed : goal.on_system-requires-clause-well_formed
on_system-requires-clause-well_formed g c w h = agreeing_stands (g.V.View.now c.args.view.now w) (c.requires.ready w h 0).agrees.world

pub log_in-requires-clause-ready : goal.log_in-requires-clause-ready
log_in-requires-clause-ready g c =
    ready_told g.V.View.holds g.V.View.now c.args.view.now c.on_system.new.view (λ w. find_verb w system (codes "do_login_command") ≡ c.in_ok-found.found) c.args.deeds.now c.requires.ready
    c.in_ok-found.ensures.left

pub returns-in_ok-outcome-in-Some-clause-played : goal.returns-in_ok-outcome-in-Some-clause-played
returns-in_ok-outcome-in-Some-clause-played g c args is =
    let connection = to_z-of_z w32 c.args.connection c.ranges.connection in
    plays_then g.V.View.holds g.V.View.now c.args.view.now c.on_system.new.view c.log_in.new.view (λ w. find_verb w system (codes "do_login_command") ≡ Some c.in-Some.found)
    (λ w. login (scene_of c.args.deeds.now w foreground_ticks) c.args.connection c.args.argstr args)
    (λ w. after_login c.args.connection
    (run (scene_of c.args.deeds.now w foreground_ticks) (system_task (connection_object c.args.connection) (codes "do_login_command") c.args.argstr args c.in-Some.found)))
    (came_to_of c.log_in.new.deeds c.in_ok-outcome-in-Some.outcome) (rw c.in-Some.is at c.in_ok-found.ensures.left) ((rw connection at c.in_ok-outcome-in-Some.ensures.played) args is)
    (λ w found. ap (login_with (scene_of c.args.deeds.now w foreground_ticks) c.args.connection c.args.argstr args) found)

pub returns-in-None-clause-played : goal.returns-in-None-clause-played
returns-in-None-clause-played g c args is =
    plays_told g.V.View.holds g.V.View.now c.args.view.now c.on_system.new.view (λ w. find_verb w system (codes "do_login_command") ≡ None)
    (λ w. login (scene_of c.args.deeds.now w foreground_ticks) c.args.connection c.args.argstr args) (came_to_of c.args.deeds.now c.nothing.result) (rw c.in-None.is at c.in_ok-found.ensures.left)
    (λ w found. ap (login_with (scene_of c.args.deeds.now w foreground_ticks) c.args.connection c.args.argstr args) found ∙ c.nothing.ensures c.args.deeds.now w foreground_ticks)
