use Rattle.std.proofs.Common.{◌≡◌, ◌∙◌, ℤ, Some, true, sym, ap, subst, rules, w32, to_z, of_z}
use Rattle.std.specs.Prelude.{IfSome}
use Rattle.spec_value.specs.Datum.{fold_case}
use Rattle.spec_world.specs.Permissions.{owns_or}
use Rattle.view.specs.Writing.{MayWrite}
use Rattle.world.specs.Amended.{Amended, amended_now}
use Rattle.world.specs.Near.{last_given}
use Rattle.world.proofs.AtHand.{near_folded, place_near}
use Rattle.world.proofs.overlay.Overlay.place_at_hand.Goals as goal

pub returns : goal.returns
returns c =
    let n = c.in_ok-near.near.now in
    let near = c.in_ok-near.ensures c.self.inside.fork c.self.inside.home.now c.self.inside.changes c.self.invariant.3 in
    let number : to_z w32 (of_z w32 c.args.object) ≡ c.args.object = search rules in
    let who : to_z w32 (of_z w32 c.args.programmer) ≡ c.args.programmer = search rules in
    let met = c.is_of.ensures c.if-not-is_of.false in
    let spelled = met.1 (near_folded c.self.inside.home.now c.self.inside.changes n.object n.name.now n.slot.now n.place near.1) in
    let allowed : owns_or c.args.programmer n.slot.now.owner n.slot.now.writable ≡ true = ap (λ (i : ℤ). owns_or i n.slot.now.owner n.slot.now.writable) (sym who) ∙ sym c.is_written_by.ensures ∙ c.if-not-is_written_by.false in
    subst (λ (a : Amended). IfSome n.place (λ i. MayWrite c.args.programmer c.args.object c.args.name.now (amended_now a) × (last_given c.args.object (fold_case c.args.name.now) a.changes ≡ Some i)))
    c.self.view_is
    (place_near (record { home = c.self.inside.home.now; changes = c.self.inside.changes }) c.args.object n.object c.args.name.now n.name.now n.slot.now (c.self.invariant.1 near.0) (met.0 ∙ number) spelled
    c.args.programmer n.place near.1 allowed)
