use Rattle.std.proofs.Common.{◌≡◌, ◌∙◌, None, [], ap, sym, w32, rules}
use Rattle.std.proofs.lemmas.Int.{to_z-of_z}
use Rattle.spec_value.specs.Datum.{no_data, list, Text}
use Rattle.spec_world.specs.World.{Link}
use Rattle.spec_world.specs.Links.{connection_object, open_link}
use Rattle.spec_moo.specs.Scene.{Scene}
use Rattle.spec_moo.specs.Steps.Events.{opened_link, login, foreground_ticks}
use Rattle.spec_ready.proofs.Readiness.{links_open}
use Rattle.moo_task.specs.Deeds.{scene_of}
use Rattle.steps.proofs.StepsPlaying.{plays_changed, ready_changed}
use Rattle.steps.proofs.Relinks.{written_goes}
use Rattle.steps.specs.StepsPerformed.{came_to_of}
use Rattle.steps.proofs.step_events.connections.open_new.Goals as goal

pub login-requires-clause-ready : goal.login-requires-clause-ready
login-requires-clause-ready g c =
    let view = g.V.View in
    let connection = to_z-of_z w32 c.args.connection c.ranges.connection in
    let k : Link = record { person = connection_object c.args.connection; programming = None } in
    let link : c.new.result ≡ k = search rules in
    ready_changed view.holds view.now c.args.view.now c.write_link.new.view (λ w. open_link w c.args.connection k) c.args.deeds.now c.args.deeds.now c.requires.ready
    (written_goes view.holds view.now c.args.view.now c.write_link.new.view c.args.connection c.new.result k c.requires.connection link (rw connection at c.in_ok-write_link.ensures.left))
    (λ w t h r. links_open (scene_of c.args.deeds.now (view.now c.args.view.now w) t) c.args.connection r c.requires.connection (c.requires.new w h))

pub returns-clause-played : goal.returns-clause-played
returns-clause-played g c s opening =
    let view = g.V.View in
    let connection = to_z-of_z w32 c.args.connection c.ranges.connection in
    let k : Link = record { person = connection_object c.args.connection; programming = None } in
    let link : c.new.result ≡ k = search rules in
    let argstr : c.in_ok-argstr.argstr ≡ [] = search rules in
    let arguments : c.in_ok-arguments.arguments ≡ list no_data = search rules in
    plays_changed view.holds view.now c.args.view.now c.write_link.new.view c.login.new.view (λ w. open_link w c.args.connection k) (λ w. opened_link s w c.args.connection None)
    (λ w. login (scene_of c.args.deeds.now w foreground_ticks) c.args.connection c.in_ok-argstr.argstr no_data) (came_to_of c.login.new.deeds c.in_ok-outcome.outcome)
    (written_goes view.holds view.now c.args.view.now c.write_link.new.view c.args.connection c.new.result k c.requires.connection link (rw connection at c.in_ok-write_link.ensures.left))
    ((rw connection at c.in_ok-outcome.ensures.played) no_data arguments)
    (λ w. ap (λ (u : Scene). login u c.args.connection [] no_data) (opening (open_link w c.args.connection k) foreground_ticks)
    ∙ ap (λ (x : Text). login (scene_of c.args.deeds.now (open_link w c.args.connection k) foreground_ticks) c.args.connection x no_data) (sym argstr))

pub login-requires-clause-list : goal.login-requires-clause-list
login-requires-clause-list g c =
    let arguments : c.in_ok-arguments.arguments ≡ list no_data = search rules in
    (no_data, arguments)
