use Rattle.std.proofs.Common.{◌≡◌, ◌||◌, true, false, Some, None, drop, refl, sym, ap, ◌∙◌, rules, w32, to_z, of_z}
use Rattle.std.proofs.lemmas.Int.{to_z-of_z}
use Rattle.spec_value.specs.Answer.{raises}
use Rattle.spec_value.specs.Datum.{permission_denied}
use Rattle.spec_world.specs.World.{Slot, object_at}
use Rattle.spec_world.specs.Inherit.{slot_at, ancestors, first_value}
use Rattle.spec_world.specs.Permissions.{is_wizard, owns_or}
use Rattle.spec_moo.specs.Properties.{found}
use Rattle.moo_value.specs.Answers.{answer_of}
use Rattle.rules.proofs.Tellings.{known_on, told_on}
use Rattle.rules.specs.Reading.{read_named}
use Rattle.rules.proofs.Walks.{settled_value, clear_value}
use Rattle.rules.proofs.ReadRules.{refused_read, allowed_read}
use Rattle.rules.proofs.access.reading.read_own.Goals as goal

pub inherited-requires-clause-well_formed : goal.inherited-requires-clause-well_formed
inherited-requires-clause-well_formed g c =
    let object = to_z-of_z w32 c.args.object c.ranges.object in
    let programmer = to_z-of_z w32 c.args.programmer c.ranges.programmer in
    let whole : to_z w32 (of_z w32 c.slot.inside.owner) ≡ c.slot.inside.owner = search rules in
    let owner : to_z w32 (of_z w32 c.slot.inside.owner) ≡ c.in-Some.slot.owner = whole ∙ ap (λ (s : Slot). s.owner) c.slot.view_is in
    let bit : c.slot.inside.readable ≡ c.in-Some.slot.readable = ap (λ (s : Slot). s.readable) c.slot.view_is in
    known_on g.V.View.holds g.V.View.now c.read_slot.new.view c.owns_or_is_wizard.new.view (λ w. (is_wizard w c.args.programmer || owns_or c.args.programmer c.in-Some.slot.owner c.in-Some.slot.readable) ≡ c.in_ok-allowed.allowed)
    (known_on g.V.View.holds g.V.View.now c.args.view.now c.read_slot.new.view (λ w. slot_at w c.args.object c.args.name.now ≡ c.in_ok-slot.field-0) c.requires.well_formed (rw object at c.in_ok-slot.ensures.left))
    (rw (programmer, owner, bit) at c.in_ok-allowed.ensures.left)

pub returns-then-not-allowed-clause-left : goal.returns-then-not-allowed-clause-left
returns-then-not-allowed-clause-left g c =
    let object = to_z-of_z w32 c.args.object c.ranges.object in
    let programmer = to_z-of_z w32 c.args.programmer c.ranges.programmer in
    let whole : to_z w32 (of_z w32 c.slot.inside.owner) ≡ c.slot.inside.owner = search rules in
    let owner : to_z w32 (of_z w32 c.slot.inside.owner) ≡ c.in-Some.slot.owner = whole ∙ ap (λ (s : Slot). s.owner) c.slot.view_is in
    let bit : c.slot.inside.readable ≡ c.in-Some.slot.readable = ap (λ (s : Slot). s.readable) c.slot.view_is in
    told_on g.V.View.holds g.V.View.now c.args.view.now c.read_slot.new.view c.owns_or_is_wizard.new.view (λ w. slot_at w c.args.object c.args.name.now ≡ Some c.in-Some.slot)
    (λ w. (is_wizard w c.args.programmer || owns_or c.args.programmer c.in-Some.slot.owner c.in-Some.slot.readable) ≡ false)
    (λ w. read_named w c.args.programmer c.args.object c.args.name.now (object_at w c.args.object) ≡ raises permission_denied)
    c.requires.well_formed (rw (object, c.in-Some.is) at c.in_ok-slot.ensures.left) (rw (programmer, owner, bit, c.if-not-allowed.true) at c.in_ok-allowed.ensures.left)
    (λ w sound is barred. refused_read w c.args.programmer c.args.object c.args.name.now c.in-Some.slot is barred)

pub returns-in-Some-content-clause-left : goal.returns-in-Some-content-clause-left
returns-in-Some-content-clause-left g c =
    let object = to_z-of_z w32 c.args.object c.ranges.object in
    let programmer = to_z-of_z w32 c.args.programmer c.ranges.programmer in
    let whole : to_z w32 (of_z w32 c.slot.inside.owner) ≡ c.slot.inside.owner = search rules in
    let owner : to_z w32 (of_z w32 c.slot.inside.owner) ≡ c.in-Some.slot.owner = whole ∙ ap (λ (s : Slot). s.owner) c.slot.view_is in
    let bit : c.slot.inside.readable ≡ c.in-Some.slot.readable = ap (λ (s : Slot). s.readable) c.slot.view_is in
    let content : c.in-Some.slot.content ≡ Some c.in-Some-content.value = search rules in
    told_on g.V.View.holds g.V.View.now c.args.view.now c.read_slot.new.view c.owns_or_is_wizard.new.view (λ w. slot_at w c.args.object c.args.name.now ≡ Some c.in-Some.slot)
    (λ w. (is_wizard w c.args.programmer || owns_or c.args.programmer c.in-Some.slot.owner c.in-Some.slot.readable) ≡ true)
    (λ w. read_named w c.args.programmer c.args.object c.args.name.now (object_at w c.args.object) ≡ found (Some c.in-Some-content.value))
    c.requires.well_formed (rw (object, c.in-Some.is) at c.in_ok-slot.ensures.left) (rw (programmer, owner, bit, c.if-not-allowed.false) at c.in_ok-allowed.ensures.left)
    (λ w sound is may. allowed_read w c.args.programmer c.args.object c.args.name.now c.in-Some.slot (Some c.in-Some-content.value) is may
    (settled_value w c.args.object c.args.name.now (Some c.in-Some.slot) (Some c.in-Some-content.value) sound is (content, refl)))

pub returns-in_ok-value-in-None-clause-left : goal.returns-in_ok-value-in-None-clause-left
returns-in_ok-value-in-None-clause-left g c =
    let object = to_z-of_z w32 c.args.object c.ranges.object in
    let programmer = to_z-of_z w32 c.args.programmer c.ranges.programmer in
    let whole : to_z w32 (of_z w32 c.slot.inside.owner) ≡ c.slot.inside.owner = search rules in
    let owner : to_z w32 (of_z w32 c.slot.inside.owner) ≡ c.in-Some.slot.owner = whole ∙ ap (λ (s : Slot). s.owner) c.slot.view_is in
    let bit : c.slot.inside.readable ≡ c.in-Some.slot.readable = ap (λ (s : Slot). s.readable) c.slot.view_is in
    let content : c.in-Some.slot.content ≡ None = search rules in
    told_on g.V.View.holds g.V.View.now c.args.view.now c.owns_or_is_wizard.new.view c.inherited.new.view
    (λ w. (slot_at w c.args.object c.args.name.now ≡ Some c.in-Some.slot) × ((is_wizard w c.args.programmer || owns_or c.args.programmer c.in-Some.slot.owner c.in-Some.slot.readable) ≡ true))
    (λ w. first_value w (drop 1 (ancestors w c.args.object)) c.args.name.now ≡ c.in_ok-value-in-None.value)
    (λ w. read_named w c.args.programmer c.args.object c.args.name.now (object_at w c.args.object) ≡ answer_of c.found.result)
    c.requires.well_formed
    (told_on g.V.View.holds g.V.View.now c.args.view.now c.read_slot.new.view c.owns_or_is_wizard.new.view (λ w. slot_at w c.args.object c.args.name.now ≡ Some c.in-Some.slot)
    (λ w. (is_wizard w c.args.programmer || owns_or c.args.programmer c.in-Some.slot.owner c.in-Some.slot.readable) ≡ true)
    (λ w. (slot_at w c.args.object c.args.name.now ≡ Some c.in-Some.slot) × ((is_wizard w c.args.programmer || owns_or c.args.programmer c.in-Some.slot.owner c.in-Some.slot.readable) ≡ true))
    c.requires.well_formed (rw (object, c.in-Some.is) at c.in_ok-slot.ensures.left) (rw (programmer, owner, bit, c.if-not-allowed.false) at c.in_ok-allowed.ensures.left) (λ w sound is may. (is, may)))
    (rw object at c.in_ok-value-in-None.ensures.left)
    (λ w sound is value. allowed_read w c.args.programmer c.args.object c.args.name.now c.in-Some.slot c.in_ok-value-in-None.value is.0 is.1
    (clear_value w c.args.object c.args.name.now (Some c.in-Some.slot) sound is.0 content ∙ value) ∙ sym c.found.ensures)
