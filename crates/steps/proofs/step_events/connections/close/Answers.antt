use Rattle.std.proofs.Common.{◌≡◌, ◌∙◌, Some, None, ap, sym, to_z, of_z, w32, rules}
use Rattle.std.proofs.lemmas.Int.{to_z-of_z}
use Rattle.spec_value.specs.Table.{at}
use Rattle.spec_world.specs.Links.{close_link}
use Rattle.spec_moo.specs.Scene.{Scene}
use Rattle.spec_moo.specs.Steps.Events.{closed_link, gone, foreground_ticks}
use Rattle.spec_ready.proofs.Readiness.{links_close}
use Rattle.rules.proofs.InheritStanding.{agreeing_stands}
use Rattle.moo_task.specs.Deeds.{scene_of}
use Rattle.steps.proofs.StepsPlaying.{plays_told, plays_then, plays_changed, ready_told, ready_changed}
use Rattle.steps.specs.StepsPerformed.{came_to_of}
use Rattle.steps.proofs.step_events.connections.close.Goals as goal

pub gone-requires-clause-ready : goal.gone-requires-clause-ready
gone-requires-clause-ready g c =
    let view = g.V.View in
    let connection = to_z-of_z w32 c.args.connection c.ranges.connection in
    ready_changed view.holds view.now c.read_link.new.view c.close_link.new.view (λ w. close_link w c.args.connection) c.args.deeds.now c.args.deeds.now
    (ready_told view.holds view.now c.args.view.now c.read_link.new.view (λ w. at w.links c.args.connection ≡ c.in_ok-link.link) c.args.deeds.now c.requires.ready (rw connection at c.in_ok-link.ensures.left))
    (rw connection at c.in_ok-close_link-in-Some.ensures.left) (λ w t h r. links_close (scene_of c.args.deeds.now (view.now c.read_link.new.view w) t) c.args.connection r)

pub returns-in_ok-outcome-in-Some-clause-played : goal.returns-in_ok-outcome-in-Some-clause-played
returns-in_ok-outcome-in-Some-clause-played g c s opening =
    let view = g.V.View in
    let connection = to_z-of_z w32 c.args.connection c.ranges.connection in
    let person : to_z w32 (of_z w32 c.link.inside.person) ≡ c.in-Some.link.person = search rules in
    plays_then view.holds view.now c.args.view.now c.read_link.new.view c.gone.new.view (λ w. at w.links c.args.connection ≡ Some c.in-Some.link)
    (λ w. closed_link s w c.args.connection (at w.links c.args.connection)) (λ w. closed_link s w c.args.connection (Some c.in-Some.link)) (came_to_of c.gone.new.deeds c.in_ok-outcome-in-Some.outcome)
    (rw (connection, c.in-Some.is) at c.in_ok-link.ensures.left)
    (plays_changed view.holds view.now c.read_link.new.view c.close_link.new.view c.gone.new.view (λ w. close_link w c.args.connection)
    (λ w. closed_link s w c.args.connection (Some c.in-Some.link)) (λ w. gone (scene_of c.args.deeds.now w foreground_ticks) c.args.connection c.in-Some.link.person) (came_to_of c.gone.new.deeds c.in_ok-outcome-in-Some.outcome)
    (rw connection at c.in_ok-close_link-in-Some.ensures.left) (rw (connection, person) at c.in_ok-outcome-in-Some.ensures.played)
    (λ w. ap (λ (u : Scene). gone u c.args.connection c.in-Some.link.person) (opening (close_link w c.args.connection) foreground_ticks)))
    (λ w is. ap (closed_link s w c.args.connection) is)

pub returns-in-None-clause-played : goal.returns-in-None-clause-played
returns-in-None-clause-played g c s opening =
    plays_told g.V.View.holds g.V.View.now c.args.view.now c.read_link.new.view (λ w. at w.links c.args.connection ≡ None)
    (λ w. closed_link s w c.args.connection (at w.links c.args.connection)) (came_to_of c.args.deeds.now c.idle.result)
    (rw (to_z-of_z w32 c.args.connection c.ranges.connection, c.in-None.is) at c.in_ok-link.ensures.left)
    (λ w is. ap (closed_link s w c.args.connection) is ∙ sym (c.idle.ensures s c.args.deeds.now opening w))

pub close_link-requires-clause-well_formed : goal.close_link-requires-clause-well_formed
close_link-requires-clause-well_formed g c w h =
    let view = g.V.View in
    let connection = to_z-of_z w32 c.args.connection c.ranges.connection in
    let ready = ready_told view.holds view.now c.args.view.now c.read_link.new.view (λ w. at w.links c.args.connection ≡ c.in_ok-link.link) c.args.deeds.now c.requires.ready (rw connection at c.in_ok-link.ensures.left) in
    agreeing_stands (view.now c.read_link.new.view w) (ready w h 0).agrees.world
