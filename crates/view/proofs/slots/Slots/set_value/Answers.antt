use Rattle.std.proofs.Common.{◌≡◌, List, subst, Some, option_map}
use Rattle.spec_value.specs.Datum.{Text, fold_case}
use Rattle.spec_world.specs.World.{Slot}
use Rattle.spec_value.specs.Table.{named, with_name}
use Rattle.view.proofs.Filled.{Stands, filled, filled_order, with_content}
use Rattle.view.proofs.slots.Slots.set_value.Goals as goal

stands : (c : goal.After-fill) → Stands (fold_case c.args.name.now) c.self.inside.entries.items c.in-Some.index
stands c = subst (λ (es : List (Text × Slot)). Stands (fold_case c.args.name.now) es c.in-Some.index) c.deref.ensures.value c.in-Some.ensures

pub invariant_of-self : goal.invariant_of-self
invariant_of-self c = filled_order _ _ _ _ _ c.self.invariant (stands c) c.fill.ensures

pub returns-clause-done : goal.returns-clause-done
returns-clause-done c = λ yes.
    subst (λ (es : List (Text × Slot)). Some c.fill.new.entries.items ≡ option_map (λ s. with_name es (fold_case c.args.name.now) (with_content s c.args.value)) (named es (fold_case c.args.name.now)))
    c.self.view_is (filled _ _ _ _ _ c.self.invariant (stands c) c.fill.ensures)
