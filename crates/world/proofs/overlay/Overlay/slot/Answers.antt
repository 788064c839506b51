use Rattle.std.proofs.Common.{◌≡◌, ◌∙◌, Some, None, option_map, sym, ap, rules, w32, to_z, of_z}
use Rattle.spec_value.specs.Datum.{fold_case}
use Rattle.spec_world.specs.World.{Slot}
use Rattle.spec_world.specs.Inherit.{slot_at}
use Rattle.world.specs.Amended.{Amended, amended_now}
use Rattle.world.specs.Late.{AllLight, with_later}
use Rattle.world.specs.Near.{value_given, IsNear}
use Rattle.world.proofs.AtHand.{none_near, slot_near}
use Rattle.world.proofs.overlay.Overlay.slot.Goals as goal

pub returns-in_default-nearest-clause-slot : goal.returns-in_default-nearest-clause-slot
returns-in_default-nearest-clause-slot c =
    let light : AllLight c.self.inside.changes = c.self.invariant.1 c.in_default.is in
    let gone : slot_at c.self.inside.home.now c.args.object c.args.name.now ≡ None = search rules in
    sym (ap (λ (a : Amended). slot_at (amended_now a) c.args.object c.args.name.now) (sym c.self.view_is) ∙ none_near c.self.inside.changes c.self.inside.home.now c.args.object c.args.name.now light gone)

pub returns-clause-slot : goal.returns-clause-slot
returns-clause-slot c =
    let n = c.in-Some-nearest.near in
    let a : Amended = record { home = c.self.inside.home.now; changes = c.self.inside.changes } in
    let light : AllLight c.self.inside.changes = c.self.invariant.1 c.in_default.is in
    let number : to_z w32 (of_z w32 c.args.object) ≡ c.args.object = search rules in
    let same : n.object ≡ to_z w32 (of_z w32 c.args.object) = search rules in
    let spelled : fold_case c.args.name.now ≡ n.name.now = search rules in
    let near : IsNear c.self.inside.home.now c.self.inside.changes n.object n.name.now n.slot.now n.place = search rules in
    let value = c.value_later.ensures ∙ ap (λ (cs : _). value_given cs n.place) c.as_slice.ensures in
    let slot : c.in_ok-slot.slot ≡ with_later n.slot.now (option_map (λ v. v.now) c.value_later.result) = search rules in
    ap (λ (s : Slot). Some s) (slot ∙ ap (with_later n.slot.now) value)
    ∙ sym (slot_near a c.args.object n.object c.args.name.now n.name.now n.slot.now light (same ∙ number) spelled n.place near)
    ∙ ap (λ (b : Amended). slot_at (amended_now b) c.args.object c.args.name.now) c.self.view_is
