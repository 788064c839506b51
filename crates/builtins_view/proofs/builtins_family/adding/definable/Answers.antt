use Rattle.std.proofs.Common.{◌≡◌, true, false, not, ◌&&◌, is_none, is_some, w32}
use Rattle.std.proofs.lemmas.Int.{to_z-of_z}
use Rattle.std.specs.Prelude.{codes}
use Rattle.spec_world.specs.World.{object_at}
use Rattle.spec_world.specs.Inherit.{slot_at}
use Rattle.spec_moo.specs.Properties.{built_in}
use Rattle.spec_moo.specs.Natives.Properties.{are_bits, is_empty}
use Rattle.rules.proofs.Tellings.{told_on}
use Rattle.rules.specs.Below.{IsFamily}
use Rattle.builtins_view.specs.Slots.{any_defines}
use Rattle.builtins_view.specs.Defining.{is_new_in, is_definable}
use Rattle.builtins_view.proofs.BuiltinsFamilyChains.{new_is, new_then, definable_is}
use Rattle.builtins_view.proofs.builtins_family.adding.definable.Goals as goal

pub returns-then-not-is_new-clause-left : goal.returns-then-not-is_new-clause-left
returns-then-not-is_new-clause-left g c =
    let object = to_z-of_z w32 c.args.object c.ranges.object in
    told_on g.V.View.holds g.V.View.now c.args.view.now c.below.new.view c.is_new_name.new.view (λ w. IsFamily w c.args.object c.in_ok-family.family.items)
    (λ w. (not (is_empty c.args.name.now) && is_none (built_in c.args.name.now) && is_none (slot_at w c.args.object c.args.name.now) && not (any_defines w c.args.name.now c.in_ok-family.family.items)) ≡ false)
    (λ w. is_definable w c.args.object c.args.name.now c.args.owner c.args.bits.now ≡ false) c.requires.well_formed (rw object at c.in_ok-family.ensures.left)
    (rw (object, c.as_slice.ensures.value, c.if-not-is_new.true) at c.in_ok-is_new.ensures.left)
    (λ w sound family told. new_then w c.args.object c.args.name.now c.args.owner c.args.bits.now (new_is w c.args.object c.args.name.now c.in_ok-family.family.items false sound family told))

pub returns-then-not-is_fit-clause-left : goal.returns-then-not-is_fit-clause-left
returns-then-not-is_fit-clause-left g c =
    let object = to_z-of_z w32 c.args.object c.ranges.object in
    let owner = to_z-of_z w32 c.args.owner c.ranges.owner in
    told_on g.V.View.holds g.V.View.now c.args.view.now c.is_new_name.new.view c.fits.new.view (λ w. (is_new_in w c.args.object c.args.name.now ≡ true) × IsFamily w c.args.object c.in_ok-family.family.items)
    (λ w. (are_bits (codes "rwc") c.args.bits.now && is_some (object_at w c.args.owner)) ≡ false)
    (λ w. is_definable w c.args.object c.args.name.now c.args.owner c.args.bits.now ≡ false) c.requires.well_formed
    (told_on g.V.View.holds g.V.View.now c.args.view.now c.below.new.view c.is_new_name.new.view (λ w. IsFamily w c.args.object c.in_ok-family.family.items)
    (λ w. (not (is_empty c.args.name.now) && is_none (built_in c.args.name.now) && is_none (slot_at w c.args.object c.args.name.now) && not (any_defines w c.args.name.now c.in_ok-family.family.items)) ≡ true)
    (λ w. (is_new_in w c.args.object c.args.name.now ≡ true) × IsFamily w c.args.object c.in_ok-family.family.items) c.requires.well_formed (rw object at c.in_ok-family.ensures.left)
    (rw (object, c.as_slice.ensures.value, c.if-not-is_new.false) at c.in_ok-is_new.ensures.left)
    (λ w sound family told. (new_is w c.args.object c.args.name.now c.in_ok-family.family.items true sound family told, family)))
    (rw (owner, c.if-not-is_fit.true) at c.in_ok-is_fit.ensures.left)
    (λ w sound new fit. definable_is w c.args.object c.args.name.now c.args.owner c.args.bits.now true false new.0 fit)

pub returns-clause-left : goal.returns-clause-left
returns-clause-left g c =
    let object = to_z-of_z w32 c.args.object c.ranges.object in
    let owner = to_z-of_z w32 c.args.owner c.ranges.owner in
    told_on g.V.View.holds g.V.View.now c.args.view.now c.is_new_name.new.view c.fits.new.view (λ w. (is_new_in w c.args.object c.args.name.now ≡ true) × IsFamily w c.args.object c.in_ok-family.family.items)
    (λ w. (are_bits (codes "rwc") c.args.bits.now && is_some (object_at w c.args.owner)) ≡ true)
    (λ w. (is_definable w c.args.object c.args.name.now c.args.owner c.args.bits.now ≡ true) × IsFamily w c.args.object c.in_ok-family.family.items) c.requires.well_formed
    (told_on g.V.View.holds g.V.View.now c.args.view.now c.below.new.view c.is_new_name.new.view (λ w. IsFamily w c.args.object c.in_ok-family.family.items)
    (λ w. (not (is_empty c.args.name.now) && is_none (built_in c.args.name.now) && is_none (slot_at w c.args.object c.args.name.now) && not (any_defines w c.args.name.now c.in_ok-family.family.items)) ≡ true)
    (λ w. (is_new_in w c.args.object c.args.name.now ≡ true) × IsFamily w c.args.object c.in_ok-family.family.items) c.requires.well_formed (rw object at c.in_ok-family.ensures.left)
    (rw (object, c.as_slice.ensures.value, c.if-not-is_new.false) at c.in_ok-is_new.ensures.left)
    (λ w sound family told. (new_is w c.args.object c.args.name.now c.in_ok-family.family.items true sound family told, family)))
    (rw (owner, c.if-not-is_fit.false) at c.in_ok-is_fit.ensures.left)
    (λ w sound new fit. (definable_is w c.args.object c.args.name.now c.args.owner c.args.bits.now true true new.0 fit, new.1))
