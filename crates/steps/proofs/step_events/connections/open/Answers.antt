use Rattle.std.proofs.Common.{◌≡◌, ◌∙◌, Some, None, ap, sym, w32}
use Rattle.std.proofs.lemmas.Int.{to_z-of_z}
use Rattle.spec_value.specs.Table.{at}
use Rattle.spec_moo.specs.Steps.Events.{opened_link}
use Rattle.steps.proofs.StepsPlaying.{plays_told, plays_then, ready_told, told_still}
use Rattle.steps.specs.StepsPerformed.{came_to_of}
use Rattle.steps.proofs.step_events.connections.open.Goals.{in-Some, in-None+in_ok-outcome-in-None}
use Rattle.steps.proofs.step_events.connections.open.Goals as goal

pub open_new-requires-clause-ready : goal.open_new-requires-clause-ready
open_new-requires-clause-ready g c =
    ready_told g.V.View.holds g.V.View.now c.args.view.now c.read_link.new.view (λ w. at w.links c.args.connection ≡ c.in_ok-link.link) c.args.deeds.now c.requires.ready
    (rw (to_z-of_z w32 c.args.connection c.ranges.connection) at c.in_ok-link.ensures.left)

pub open_new-requires-clause-new : goal.open_new-requires-clause-new
open_new-requires-clause-new g c =
    rw (to_z-of_z w32 c.args.connection c.ranges.connection) (told_still g.V.View.holds g.V.View.now c.args.view.now c.read_link.new.view (λ w. at w.links c.args.connection ≡ None)
    (rw (to_z-of_z w32 c.args.connection c.ranges.connection, c.in-None.is) at c.in_ok-link.ensures.left))

pub returns-clause-played : goal.returns-clause-played
returns-clause-played g c =
    let connection = to_z-of_z w32 c.args.connection c.ranges.connection in
    elim c.match-link.branch [
      | in-Some w ↦ rw (w.result-is, w.view-is, w.deeds-is) (λ s opening.
          plays_told g.V.View.holds g.V.View.now c.args.view.now c.read_link.new.view (λ u. at u.links c.args.connection ≡ Some w.in-Some.field-0)
          (λ u. opened_link s u c.args.connection (at u.links c.args.connection)) (came_to_of c.args.deeds.now w.idle.result)
          (rw (connection, w.in-Some.is) at c.in_ok-link.ensures.left)
          (λ u is. ap (opened_link s u c.args.connection) is ∙ sym (w.idle.ensures s c.args.deeds.now opening u)))
      | in-None+in_ok-outcome-in-None w ↦ rw (w.result-is, w.view-is, w.deeds-is) (λ s opening.
          plays_then g.V.View.holds g.V.View.now c.args.view.now c.read_link.new.view w.open_new.new.view (λ u. at u.links c.args.connection ≡ None)
          (λ u. opened_link s u c.args.connection (at u.links c.args.connection)) (λ u. opened_link s u c.args.connection None) (came_to_of w.open_new.new.deeds w.in_ok-outcome-in-None.outcome)
          (rw (connection, w.in-None.is) at c.in_ok-link.ensures.left) ((rw connection at w.in_ok-outcome-in-None.ensures.played) s opening) (λ u is. ap (opened_link s u c.args.connection) is))
    ]
