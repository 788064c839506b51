use Rattle.std.proofs.Common.{◌≡◌, ℤ, sym, subst, rules, w32, to_z, of_z}
use Rattle.std.proofs.lemmas.Int.{to_z-of_z}
use Rattle.view.specs.Kin.{IsCalledAt, IsCalledVerb}
use Rattle.rules.proofs.Lent.{lent_at, lent_above, lent_nearer}
use Rattle.rules.proofs.inherit.verb.find_lent.Goals as goal

pub returns-in-Some-place : goal.returns-in-Some-place
returns-in-Some-place g c = λ w is.
    let view = g.V.View in
    let object = to_z-of_z w32 c.args.object c.ranges.object in
    let at : to_z w32 (of_z w32 c.in-Some.at) ≡ c.in-Some.at = search rules in
    let kin = (rw at at c.in_ok-parent.ensures) w is in
    let so = (rw (c.in-Some.is, object) at c.loop-next.invariant) w is in
    let first = c.in-Some-place.ensures.found c.in-Some.at in
    let now = view.now c.args.view.now w in
    let word = c.args.word.now in
    let verb = c.index-as_slice-place.result in
    let place = c.in-Some-place.place in
    subst (λ (o : ℤ). IsCalledVerb now c.args.object word o verb × IsCalledAt now c.args.object word o place) (sym at)
    (lent_at now word c.in-Some.at c.in_ok-parent.parent c.in_ok-parent.verbs.now (c.requires.well_formed w is).objects kin c.args.object place verb so first c.in-Some-place.ensures.inside
    (rw c.as_slice.ensures at c.index-as_slice-place.is))

pub loop-next-smaller : goal.loop-next-smaller
loop-next-smaller g c =
    let view = g.V.View in
    let at : to_z w32 (of_z w32 c.in-Some.at) ≡ c.in-Some.at = search rules in
    let above : to_z w32 (of_z w32 c.in_ok-parent.parent) ≡ c.in_ok-parent.parent = search rules in
    let home = c.requires.home in
    let kin = (rw at at c.in_ok-parent.ensures) (view.home c.args.view.now) home in
    rw c.in-Some.is (lent_nearer (view.now c.args.view.now (view.home c.args.view.now)) c.args.word.now c.in-Some.at c.in_ok-parent.parent c.in_ok-parent.verbs.now (c.requires.well_formed (view.home c.args.view.now) home).objects kin c.not_negative-next.result (rw above at c.not_negative-next.ensures))

pub loop-next-preserved : goal.loop-next-preserved
loop-next-preserved g c = λ w is.
    let view = g.V.View in
    let object = to_z-of_z w32 c.args.object c.ranges.object in
    let at : to_z w32 (of_z w32 c.in-Some.at) ≡ c.in-Some.at = search rules in
    let above : to_z w32 (of_z w32 c.in_ok-parent.parent) ≡ c.in_ok-parent.parent = search rules in
    let kin = (rw at at c.in_ok-parent.ensures) w is in
    let so = (rw (c.in-Some.is, object) at c.loop-next.invariant) w is in
    rw object (lent_above (view.now c.args.view.now w) c.args.word.now c.in-Some.at c.in_ok-parent.parent c.in_ok-parent.verbs.now (c.requires.well_formed w is).objects kin c.args.object c.not_negative-next.result so (c.in_default-place.ensures.found c.in-Some.at) (rw above at c.not_negative-next.ensures))
