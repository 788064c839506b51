use Rattle.std.proofs.Common.{◌≡◌, ◌||◌, true, false, Some, ap, ◌∙◌, rules, w32, to_z, of_z}
use Rattle.std.proofs.lemmas.Int.{to_z-of_z}
use Rattle.spec_world.specs.World.{Slot, object_at}
use Rattle.spec_world.specs.Inherit.{slot_at}
use Rattle.spec_world.specs.Permissions.{is_wizard, owns_or}
use Rattle.spec_world.specs.Questions.{new_value}
use Rattle.spec_moo.specs.Properties.{refused}
use Rattle.moo_value.specs.Errors.{code_of}
use Rattle.moo_value.specs.declared.error.MooError.TheVariants.{PermissionDenied}
use Rattle.rules.specs.Writing.{write_named}
use Rattle.rules.proofs.WriteRules.{told_both, told_so, refused_told, written_told, refused_write, allowed_write}
use Rattle.rules.proofs.access.writing.write_own.Goals as goal

pub returns-then-not-allowed-clause-left : goal.returns-then-not-allowed-clause-left
returns-then-not-allowed-clause-left g c =
    let object = to_z-of_z w32 c.args.object c.ranges.object in
    let programmer = to_z-of_z w32 c.args.programmer c.ranges.programmer in
    let whole : to_z w32 (of_z w32 c.slot.inside.owner) ≡ c.slot.inside.owner = search rules in
    let owner : to_z w32 (of_z w32 c.slot.inside.owner) ≡ c.in-Some.slot.owner = whole ∙ ap (λ (s : Slot). s.owner) c.slot.view_is in
    let bit : c.slot.inside.writable ≡ c.in-Some.slot.writable = ap (λ (s : Slot). s.writable) c.slot.view_is in
    refused_told g.V.View.holds g.V.View.now c.args.view.now c.owns_or_is_wizard.new.view (λ w. write_named w c.args.programmer c.args.object c.args.name.now c.args.value (object_at w c.args.object)) PermissionDenied
    (told_so g.V.View.holds g.V.View.now c.args.view.now c.owns_or_is_wizard.new.view
    (λ w. (slot_at w c.args.object c.args.name.now ≡ Some c.in-Some.slot) × ((is_wizard w c.args.programmer || owns_or c.args.programmer c.in-Some.slot.owner c.in-Some.slot.writable) ≡ false))
    (λ w. write_named w c.args.programmer c.args.object c.args.name.now c.args.value (object_at w c.args.object) ≡ refused (code_of PermissionDenied))
    (told_both g.V.View.holds g.V.View.now c.args.view.now c.read_slot.new.view c.owns_or_is_wizard.new.view (λ w. slot_at w c.args.object c.args.name.now ≡ Some c.in-Some.slot)
    (λ w. (is_wizard w c.args.programmer || owns_or c.args.programmer c.in-Some.slot.owner c.in-Some.slot.writable) ≡ false)
    (rw (object, c.in-Some.is) at c.in_ok-slot.ensures.left) (rw (programmer, owner, bit, c.if-not-allowed.true) at c.in_ok-allowed.ensures.left))
    (λ w h. refused_write w c.args.programmer c.args.object c.args.name.now c.args.value c.in-Some.slot h.0 h.1))

pub returns-clause-left : goal.returns-clause-left
returns-clause-left g c =
    let object = to_z-of_z w32 c.args.object c.ranges.object in
    let programmer = to_z-of_z w32 c.args.programmer c.ranges.programmer in
    let whole : to_z w32 (of_z w32 c.slot.inside.owner) ≡ c.slot.inside.owner = search rules in
    let owner : to_z w32 (of_z w32 c.slot.inside.owner) ≡ c.in-Some.slot.owner = whole ∙ ap (λ (s : Slot). s.owner) c.slot.view_is in
    let bit : c.slot.inside.writable ≡ c.in-Some.slot.writable = ap (λ (s : Slot). s.writable) c.slot.view_is in
    written_told g.V.View.holds g.V.View.now c.args.view.now c.owns_or_is_wizard.new.view c.write_value.new.view (λ w. write_named w c.args.programmer c.args.object c.args.name.now c.args.value (object_at w c.args.object))
    (λ w. (slot_at w c.args.object c.args.name.now ≡ Some c.in-Some.slot) × ((is_wizard w c.args.programmer || owns_or c.args.programmer c.in-Some.slot.owner c.in-Some.slot.writable) ≡ true))
    (new_value c.args.object c.args.name.now c.args.value)
    (told_both g.V.View.holds g.V.View.now c.args.view.now c.read_slot.new.view c.owns_or_is_wizard.new.view (λ w. slot_at w c.args.object c.args.name.now ≡ Some c.in-Some.slot)
    (λ w. (is_wizard w c.args.programmer || owns_or c.args.programmer c.in-Some.slot.owner c.in-Some.slot.writable) ≡ true)
    (rw (object, c.in-Some.is) at c.in_ok-slot.ensures.left) (rw (programmer, owner, bit, c.if-not-allowed.false) at c.in_ok-allowed.ensures.left))
    (rw object at c.in_ok-write_value.ensures.left)
    (λ w h. allowed_write w c.args.programmer c.args.object c.args.name.now c.args.value c.in-Some.slot h.0 h.1)
