use Rattle.std.proofs.Common.{[], ◌∷◌, subst, w32}
use Rattle.std.proofs.lemmas.Int.{to_z-of_z}
use Rattle.std.specs.Prelude.{IfOk}
use Rattle.spec_value.specs.Datum.{object as object_of, text as text_value}
use Rattle.spec_moo.specs.Natives.Properties.{add_property_row}
use Rattle.moo_value.specs.Answers.{answer_of}
use Rattle.view.specs.Law.{Goes}
use Rattle.builtins_view.specs.Said.{Does}
use Rattle.builtins_view.proofs.Keeping.{leaves_well}
use Rattle.builtins_view.specs.BuiltinsChangeListed.{owner_and_bits}
use Rattle.builtins_view.specs.Defining.{property_given}
use Rattle.builtins_view.proofs.BuiltinsFamilyRowsKeep.{add_property_keeps}
use Rattle.builtins_view.proofs.builtins_family.adding.add_property.Goals as goal

pub returns-clause-left : goal.returns-clause-left
returns-clause-left g c =
    let object = to_z-of_z w32 c.args.object c.ranges.object in
    let programmer = to_z-of_z w32 c.args.programmer c.ranges.programmer in
    let owner = to_z-of_z w32 c.args.owner c.ranges.owner in
    subst
    (λ t. IfOk c.add.result (λ a. Goes g.V.View.holds g.V.View.now c.args.view.now c.add.new.view
    (λ before after. Does (property_given c.args.object c.args.name.now t c.args.owner c.args.bits.now) before after c.args.programmer (answer_of a))))
    (rw owner at c.slot_with-slot.ensures) (rw (object, programmer, owner) at c.add.ensures.left)

pub returns-clause-well_formed : goal.returns-clause-well_formed
returns-clause-well_formed g c =
    leaves_well g.V.View.holds g.V.View.now c.args.view.now c.add.new.view
    (λ s k. add_property_row s k (object_of c.args.object ∷ text_value c.args.name.now ∷ c.args.value ∷ owner_and_bits c.args.owner c.args.bits.now ∷ []))
    c.args.programmer c.add.result
    (add_property_keeps (object_of c.args.object ∷ text_value c.args.name.now ∷ c.args.value ∷ owner_and_bits c.args.owner c.args.bits.now ∷ []))
    (returns-clause-left g c) c.requires.well_formed
