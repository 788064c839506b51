use Rattle.std.proofs.Common.{◌≡◌, ◌∙◌, ap, sym, w32, to_z, of_z, rules}
use Rattle.std.proofs.lemmas.Int.{to_z-of_z}
use Rattle.spec_value.specs.Table.{at}
use Rattle.spec_world.specs.World.{World}
use Rattle.spec_moo.specs.Steps.Events.{is_open_for}
use Rattle.steps.proofs.Accepted.{may_not, may_where}
use Rattle.steps.proofs.step_links.logins.may_log_in.Goals as goal

pub returns-then-not-player-clause-left : goal.returns-then-not-player-clause-left
returns-then-not-player-clause-left g c w h =
    let v = g.V.View.now c.args.view.now w in
    let told = (rw (to_z-of_z w32 c.args.object c.ranges.object) at c.in_ok-header.ensures.left) w h in
    (told.0, (told.1.0, λ d t. may_not d v t c.args.connection c.args.object c.in_ok-header.header told.1.1 (sym c.is_player-player.ensures ∙ c.if-not-player.true)))

pub returns-clause-left : goal.returns-clause-left
returns-clause-left g c w h =
    let v = g.V.View.now c.args.view.now w in
    let connection = to_z-of_z w32 c.args.connection c.ranges.connection in
    let nobodys : to_z w32 (of_z w32 c.connection_object-nobodys.result) ≡ c.connection_object-nobodys.result = search rules in
    let second = (rw connection at c.in_ok-link.ensures.left) w h in
    let first = (rw (to_z-of_z w32 c.args.object c.ranges.object) at c.in_ok-header.ensures.left) w second.0 in
    let same = second.1.0 ∙ first.1.0 in (
      first.0,
      (
        same,
        λ d t.
            may_where d v t c.args.connection c.args.object c.in_ok-header.header c.in_ok-link.link first.1.1 (sym c.is_player-player.ensures ∙ c.if-not-player.false)
            (ap (λ (x : World). at x.links c.args.connection) (sym first.1.0) ∙ second.1.1)
            ∙ ap (is_open_for c.in_ok-link.link) (sym (rw connection at c.connection_object-nobodys.ensures)) ∙ sym (rw nobodys at c.is_open_for-open.ensures),
      ),
    )
