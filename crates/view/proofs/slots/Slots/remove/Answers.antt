use Rattle.std.proofs.Common.{◌≡◌, List, None, subst}
use Rattle.spec_value.specs.Datum.{Text, fold_case}
use Rattle.spec_world.specs.World.{Slot}
use Rattle.spec_value.specs.Table.{named, without_name}
use Rattle.view.proofs.Filled.{Stands}
use Rattle.view.proofs.Spots.{gone, gone_sorted, none_removed}
use Rattle.view.proofs.slots.Slots.remove.Goals as goal

stands : (c : goal.After-take_out) → Stands (fold_case c.args.name.now) c.self.inside.entries.items c.in-Some.index
stands c = subst (λ (es : List (Text × Slot)). Stands (fold_case c.args.name.now) es c.in-Some.index) c.deref.ensures.value c.in-Some.ensures

pub invariant_of-self : goal.invariant_of-self
invariant_of-self c = gone_sorted _ _ _ _ c.self.invariant (stands c) c.take_out.ensures

pub returns-in-Some : goal.returns-in-Some
returns-in-Some c =
    subst (λ (es : List (Text × Slot)). c.take_out.new.entries.items ≡ without_name es (fold_case c.args.name.now)) c.self.view_is
    (gone _ _ _ _ c.self.invariant (stands c) c.take_out.ensures)

pub returns-in_default : goal.returns-in_default
returns-in_default c =
    let none : named c.self.inside.entries.items (fold_case c.args.name.now) ≡ None =
    subst (λ (es : List (Text × Slot)). named es (fold_case c.args.name.now) ≡ None) c.deref.ensures.value c.in_default.ensures in
    subst (λ (es : List (Text × Slot)). es ≡ without_name es (fold_case c.args.name.now)) c.self.view_is (none_removed _ _ none)
