use Rattle.std.proofs.Common.{◌≡◌, List, subst, rules, w32, to_z, of_z}
use Rattle.spec_value.specs.Datum.{Text, fold_case}
use Rattle.spec_world.specs.World.{Slot}
use Rattle.view.specs.Writing.{AreRewritten}
use Rattle.view.proofs.Filled.{Stands, filled_order}
use Rattle.view.proofs.Written.{IsWritable, slots_rewritten}
use Rattle.view.proofs.slots.Slots.write.Goals as goal

stands : (c : goal.After-fill) → Stands (fold_case c.args.name.now) c.self.inside.entries.items c.in-Some.index
stands c = subst (λ (es : List (Text × Slot)). Stands (fold_case c.args.name.now) es c.in-Some.index) c.deref.ensures.value c.in-Some.ensures

pub invariant_of-self : goal.invariant_of-self
invariant_of-self c = filled_order _ _ _ _ _ c.self.invariant (stands c) c.fill.ensures

pub returns-clause-done : goal.returns-clause-done
returns-clause-done c = λ yes.
    let who : to_z w32 (of_z w32 c.args.programmer) ≡ c.args.programmer = search rules in
    let value : c.in_ok-value.value ≡ c.args.value.now = search rules in
    let allowed : IsWritable c.self.inside.entries.items c.in-Some.index c.args.programmer c.is_written_at-allowed.result =
    subst (λ (es : List (Text × Slot)). IsWritable es c.in-Some.index c.args.programmer c.is_written_at-allowed.result) c.deref-2.ensures.value (rw who at c.is_written_at-allowed.ensures) in
    subst (λ (es : List (Text × Slot)). AreRewritten c.args.programmer c.args.name.now c.args.value.now es c.fill.new.entries.items)
    c.self.view_is (slots_rewritten c.args.programmer c.args.name.now c.args.value.now _ _ _ _ c.self.invariant (stands c) allowed c.if-not-allowed.false (rw value at c.fill.ensures))
