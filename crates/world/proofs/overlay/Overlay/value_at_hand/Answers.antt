use Rattle.std.proofs.Common.{◌≡◌, ◌∙◌, ℤ, Some, option_map, true, sym, ap, subst, rules, w32, to_z, of_z}
use Rattle.std.specs.Prelude.{IfSome}
use Rattle.spec_world.specs.Permissions.{owns_or}
use Rattle.spec_world.specs.World.{Slot}
use Rattle.view.specs.Writing.{IsReadBy}
use Rattle.world.specs.Amended.{Amended, amended_now}
use Rattle.world.specs.Near.{value_given, IsNear}
use Rattle.world.proofs.AtHand.{given_near, near_folded, own_near, if_mapped, mapped_if}
use Rattle.world.proofs.overlay.Overlay.value_at_hand.Goals as goal

pub returns-in-Some : goal.returns-in-Some
returns-in-Some c =
    let n = c.in_ok-near.near.now in
    let near = c.in_ok-near.ensures c.self.inside.fork c.self.inside.home.now c.self.inside.changes c.self.invariant.3 in
    let number : to_z w32 (of_z w32 c.args.object) ≡ c.args.object = search rules in
    let who : to_z w32 (of_z w32 c.args.programmer) ≡ c.args.programmer = search rules in
    let met = c.is_of.ensures c.if-not-is_of.false in
    let spelled = met.1 (near_folded c.self.inside.home.now c.self.inside.changes n.object n.name.now n.slot.now n.place near.1) in
    let allowed : owns_or c.args.programmer n.slot.now.owner n.slot.now.readable ≡ true = ap (λ (i : ℤ). owns_or i n.slot.now.owner n.slot.now.readable) (sym who) ∙ sym c.is_read_by.ensures ∙ c.if-not-is_read_by.false in
    let a : Amended = record { home = c.self.inside.home.now; changes = c.self.inside.changes } in
    let value = c.value_at.ensures ∙ ap (λ (cs : _). value_given cs (Some c.in-Some.place)) c.as_slice.ensures in
    subst (λ (b : Amended). IfSome c.value_at.result (λ v. IsReadBy c.args.programmer c.args.object c.args.name.now v.now (amended_now b))) c.self.view_is
    (if_mapped (λ v. v.now) (λ x. IsReadBy c.args.programmer c.args.object c.args.name.now x (amended_now a)) c.value_at.result
    (given_near a c.args.object n.object c.args.name.now n.name.now n.slot.now (c.self.invariant.1 near.0) (met.0 ∙ number) spelled c.args.programmer c.in-Some.place
    (option_map (λ v. v.now) c.value_at.result)
    (subst (λ m. IsNear c.self.inside.home.now c.self.inside.changes n.object n.name.now n.slot.now m) c.in-Some.is near.1) allowed value near.2))

pub returns-in-None : goal.returns-in-None
returns-in-None c =
    let n = c.in_ok-near.near.now in
    let near = c.in_ok-near.ensures c.self.inside.fork c.self.inside.home.now c.self.inside.changes c.self.invariant.3 in
    let number : to_z w32 (of_z w32 c.args.object) ≡ c.args.object = search rules in
    let who : to_z w32 (of_z w32 c.args.programmer) ≡ c.args.programmer = search rules in
    let met = c.is_of.ensures c.if-not-is_of.false in
    let spelled = met.1 (near_folded c.self.inside.home.now c.self.inside.changes n.object n.name.now n.slot.now n.place near.1) in
    let allowed : owns_or c.args.programmer n.slot.now.owner n.slot.now.readable ≡ true = ap (λ (i : ℤ). owns_or i n.slot.now.owner n.slot.now.readable) (sym who) ∙ sym c.is_read_by.ensures ∙ c.if-not-is_read_by.false in
    let a : Amended = record { home = c.self.inside.home.now; changes = c.self.inside.changes } in
    let content : c.slot.inside.content ≡ n.slot.now.content = ap (λ (s : Slot). s.content) c.slot.view_is in
    subst (λ (b : Amended). IfSome c.lent.result (λ v. IsReadBy c.args.programmer c.args.object c.args.name.now v.now (amended_now b))) c.self.view_is
    (if_mapped (λ v. v.now) (λ x. IsReadBy c.args.programmer c.args.object c.args.name.now x (amended_now a)) c.lent.result
    (own_near a c.args.object n.object c.args.name.now n.name.now n.slot.now (c.self.invariant.1 near.0) (met.0 ∙ number) spelled c.args.programmer
    (option_map (λ v. v.now) c.lent.result)
    (subst (λ m. IsNear c.self.inside.home.now c.self.inside.changes n.object n.name.now n.slot.now m) c.in-None.is near.1) allowed
    (mapped_if (λ v. v.now) (λ x. n.slot.now.content ≡ Some x) c.lent.result (subst (λ k. IfSome c.lent.result (λ v. k ≡ Some v.now)) content c.lent.ensures)) near.2))
