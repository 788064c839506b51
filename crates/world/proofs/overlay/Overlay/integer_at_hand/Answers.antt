use Rattle.std.proofs.Common.{◌≡◌, ◌∙◌, ℤ, List, Some, true, sym, ap, subst, rules, w32, to_z, of_z}
use Rattle.spec_value.specs.Datum.{fold_case, integer}
use Rattle.spec_world.specs.Permissions.{owns_or}
use Rattle.spec_world.specs.Questions.{Change}
use Rattle.view.specs.Writing.{IsReadBy, MayWrite}
use Rattle.world.specs.Amended.{Amended, amended_now}
use Rattle.world.specs.Near.{last_given, value_given, IsNear}
use Rattle.world.proofs.AtHand.{given_near, near_folded, place_near}
use Rattle.world.proofs.overlay.Overlay.integer_at_hand.Goals as goal

pub returns-clause-read : goal.returns-clause-read
returns-clause-read c =
    let n = c.in_ok-near.near.now in
    let near = c.in_ok-near.ensures c.self.inside.fork c.self.inside.home.now c.self.inside.changes c.self.invariant.3 in
    let object : to_z w32 (of_z w32 c.args.object) ≡ c.args.object = search rules in
    let who : to_z w32 (of_z w32 c.args.programmer) ≡ c.args.programmer = search rules in
    let number : to_z w32 (of_z w32 c.in_ok-first.first) ≡ c.in_ok-first.first = search rules in
    let met = c.is_of.ensures c.if-not-is_of.false in
    let spelled = met.1 (near_folded c.self.inside.home.now c.self.inside.changes n.object n.name.now n.slot.now n.place near.1) in
    let allowed : owns_or c.args.programmer n.slot.now.owner n.slot.now.readable ≡ true = ap (λ (i : ℤ). owns_or i n.slot.now.owner n.slot.now.readable) (sym who) ∙ sym c.is_read_by.ensures ∙ c.if-not-is_read_by.false in
    let a : Amended = record { home = c.self.inside.home.now; changes = c.self.inside.changes } in
    let value : Some (integer c.in_ok-first.first) ≡ value_given c.self.inside.changes (Some c.in_ok-place.place) =
    sym (subst (λ (cs : List Change). value_given cs (Some c.in_ok-place.place) ≡ Some (integer c.in_ok-first.first)) c.as_slice.ensures c.in_ok-first.ensures) in
    subst (λ (k : ℤ). IsReadBy c.args.programmer c.args.object c.args.name.now (integer k) (amended_now c.args.self.now)) (sym number)
    (subst (λ (b : Amended). IsReadBy c.args.programmer c.args.object c.args.name.now (integer c.in_ok-first.first) (amended_now b)) c.self.view_is
    (given_near a c.args.object n.object c.args.name.now n.name.now n.slot.now (c.self.invariant.1 near.0) (met.0 ∙ object) spelled c.args.programmer c.in_ok-place.place (Some (integer c.in_ok-first.first))
    (subst (λ m. IsNear c.self.inside.home.now c.self.inside.changes n.object n.name.now n.slot.now m) c.in_ok-place.was near.1) allowed value near.2))

pub returns-clause-place : goal.returns-clause-place
returns-clause-place c =
    let n = c.in_ok-near.near.now in
    let near = c.in_ok-near.ensures c.self.inside.fork c.self.inside.home.now c.self.inside.changes c.self.invariant.3 in
    let object : to_z w32 (of_z w32 c.args.object) ≡ c.args.object = search rules in
    let who : to_z w32 (of_z w32 c.args.programmer) ≡ c.args.programmer = search rules in
    let met = c.is_of.ensures c.if-not-is_of.false in
    let spelled = met.1 (near_folded c.self.inside.home.now c.self.inside.changes n.object n.name.now n.slot.now n.place near.1) in
    let allowed : owns_or c.args.programmer n.slot.now.owner n.slot.now.writable ≡ true = ap (λ (i : ℤ). owns_or i n.slot.now.owner n.slot.now.writable) (sym who) ∙ sym c.is_written_by.ensures ∙ c.if-not-is_written_by.false in
    subst (λ (b : Amended). MayWrite c.args.programmer c.args.object c.args.name.now (amended_now b) × (last_given c.args.object (fold_case c.args.name.now) b.changes ≡ Some c.in_ok-place.place)) c.self.view_is
    (place_near (record { home = c.self.inside.home.now; changes = c.self.inside.changes }) c.args.object n.object c.args.name.now n.name.now n.slot.now (c.self.invariant.1 near.0) (met.0 ∙ object) spelled
    c.args.programmer (Some c.in_ok-place.place) (subst (λ m. IsNear c.self.inside.home.now c.self.inside.changes n.object n.name.now n.slot.now m) c.in_ok-place.was near.1) allowed)
