use Rattle.std.proofs.Common.{◌≡◌, ◌∙◌, sym, subst, true, [], ◌∷◌, Some, w32}
use Rattle.std.proofs.lemmas.Int.{to_z-of_z}
use Rattle.spec_value.specs.Datum.{object as object_of, text as text_value}
use Rattle.spec_world.specs.Inherit.{slot_at}
use Rattle.spec_world.specs.Permissions.{may, write_slot}
use Rattle.rules.specs.Standing.{IsStanding}
use Rattle.spec_moo.specs.Natives.Properties.{set_property_info_row}
use Rattle.moo_value.specs.Answers.{answer_of}
use Rattle.rules.specs.Acts.{act_of}
use Rattle.builtins_view.specs.Said.{with_programmer}
use Rattle.builtins_view.specs.BuiltinsChangeLater.{slot_given}
use Rattle.builtins_view.specs.BuiltinsChangeListed.{owner_and_bits}
use Rattle.builtins_view.proofs.Chains.{then_does, slot_is_given}
use Rattle.builtins_view.proofs.Keeping.{goes_well}
use Rattle.builtins_view.proofs.RowsKeep.{set_property_info_keeps}
use Rattle.builtins_view.proofs.builtins_change.properties.set_property_info.Goals as goal

pub returns-clause-left : goal.returns-clause-left
returns-clause-left g c =
    let object = to_z-of_z w32 c.args.object c.ranges.object in
    let programmer = to_z-of_z w32 c.args.programmer c.ranges.programmer in
    let owner = to_z-of_z w32 c.args.owner c.ranges.owner in
    let act : act_of c.in_ok-act.act ≡ write_slot c.args.object c.args.name.now = cc (c.in_ok-act.ensures, object) in
    then_does g.V.View.holds g.V.View.now c.args.view.now c.read_slot.new.view c.may.new.view c.give_slot.new.view
    (λ w. slot_at w c.args.object c.args.name.now ≡ Some c.in-Some.slot) (λ w. may w c.args.programmer (write_slot c.args.object c.args.name.now) ≡ true)
    (slot_given c.args.object c.args.name.now c.in-Some.slot c.args.owner c.args.bits.now)
    (λ s k. set_property_info_row s k (object_of c.args.object ∷ text_value c.args.name.now ∷ owner_and_bits c.args.owner c.args.bits.now ∷ []))
    c.args.programmer (answer_of c.in_ok-answer.answer)
    (rw (object, c.in-Some.is) at c.in_ok-slot.ensures.left)
    (rw (programmer, act, c.if-not-allowed.false) at c.in_ok-allowed.ensures.left)
    (λ w l. let u = (rw (object, programmer, owner) at c.in_ok-answer.ensures.left) w l in (u.0, λ h. u.1))
    (λ s k is allowed. slot_is_given s (with_programmer k c.args.programmer) c.args.object c.args.name.now c.in-Some.slot c.args.owner c.args.bits.now is allowed)

pub returns-clause-well_formed : goal.returns-clause-well_formed
returns-clause-well_formed g c =
    goes_well g.V.View.holds g.V.View.now c.args.view.now c.give_slot.new.view (λ s k. set_property_info_row s k (object_of c.args.object ∷ text_value c.args.name.now ∷ owner_and_bits c.args.owner c.args.bits.now ∷ []))
    c.args.programmer (answer_of c.in_ok-answer.answer) (set_property_info_keeps (object_of c.args.object ∷ text_value c.args.name.now ∷ owner_and_bits c.args.owner c.args.bits.now ∷ [])) (returns-clause-left g c)

-- where nothing is changed
pub returns-in_default-clause-well_formed : goal.returns-in_default-clause-well_formed
returns-in_default-clause-well_formed g c = λ well w h.
    let t = c.in_ok-error.ensures.left w h in
    let u = c.in_ok-slot.ensures.left w t.0 in
    subst IsStanding (sym (t.1.0 ∙ u.1.0)) (well w u.0)

pub returns-then-not-allowed-clause-well_formed : goal.returns-then-not-allowed-clause-well_formed
returns-then-not-allowed-clause-well_formed g c = λ well w h.
    let t = c.in_ok-allowed.ensures.left w h in
    let u = c.in_ok-slot.ensures.left w t.0 in
    subst IsStanding (sym (t.1.0 ∙ u.1.0)) (well w u.0)
