use Rattle.std.proofs.Common.{◌≡◌, Some, ℤ, refl, to_z, of_z, w32, rules}
use Rattle.std.proofs.lemmas.Int.{to_z-of_z}
use Rattle.spec_value.specs.Table.{at}
use Rattle.spec_moo.specs.Scene.{Scene}
use Rattle.spec_moo.specs.Steps.Events.{foreground_ticks}
use Rattle.spec_moo.specs.Steps.Programming.{requested}
use Rattle.player_commands.specs.Meanings.{request_of}
use Rattle.player_commands.specs.Openings.{opened}
use Rattle.moo_task.specs.Deeds.{scene_of}
use Rattle.steps.proofs.StepsPlaying.{ready_agrees, plays_then, ready_told, still}
use Rattle.steps.specs.StepsPerformed.{came_to_of}
use Rattle.steps.proofs.step_links.programming.request.Goals as goal

pub open-requires-clause-well_formed : goal.open-requires-clause-well_formed
open-requires-clause-well_formed g c = ready_agrees g.V.View.holds g.V.View.now c.args.view.now c.args.deeds.now c.requires.ready

pub answer-requires-clause-ready : goal.answer-requires-clause-ready
answer-requires-clause-ready g c =
    let person : to_z w32 (of_z w32 c.link.inside.person) ≡ c.args.link.now.person = search rules in
    ready_told g.V.View.holds g.V.View.now c.args.view.now c.open.new.view (λ w. (s : Scene) (n : ℤ) → s.world ≡ w → requested s n c.args.link.now.person (request_of c.args.request) ≡ opened s n c.args.link.now.person c.in_ok-opening.opening) c.args.deeds.now c.requires.ready (rw person at c.in_ok-opening.ensures.left)

pub answer-requires-clause-link : goal.answer-requires-clause-link
answer-requires-clause-link g c =
    let person : to_z w32 (of_z w32 c.link.inside.person) ≡ c.args.link.now.person = search rules in
    rw (to_z-of_z w32 c.args.connection c.ranges.connection) (still g.V.View.holds g.V.View.now c.args.view.now c.open.new.view (λ w. (s : Scene) (n : ℤ) → s.world ≡ w → requested s n c.args.link.now.person (request_of c.args.request) ≡ opened s n c.args.link.now.person c.in_ok-opening.opening) (λ w. at w.links c.args.connection ≡ Some c.args.link.now) c.requires.link
    (rw person at c.in_ok-opening.ensures.left))

pub returns-clause-played : goal.returns-clause-played
returns-clause-played g c =
    let connection = to_z-of_z w32 c.args.connection c.ranges.connection in
    let person : to_z w32 (of_z w32 c.link.inside.person) ≡ c.args.link.now.person = search rules in
    plays_then g.V.View.holds g.V.View.now c.args.view.now c.open.new.view c.answer.new.view
    (λ w. (s : Scene) (n : ℤ) → s.world ≡ w → requested s n c.args.link.now.person (request_of c.args.request) ≡ opened s n c.args.link.now.person c.in_ok-opening.opening)
    (λ w. requested (scene_of c.args.deeds.now w foreground_ticks) c.args.connection c.args.link.now.person (request_of c.args.request))
    (λ w. opened (scene_of c.args.deeds.now w foreground_ticks) c.args.connection c.args.link.now.person c.in_ok-opening.opening) (came_to_of c.answer.new.deeds c.in_ok-outcome.outcome) (rw person at c.in_ok-opening.ensures.left)
    (rw connection at c.in_ok-outcome.ensures.played) (λ w so. so (scene_of c.args.deeds.now w foreground_ticks) c.args.connection refl)
