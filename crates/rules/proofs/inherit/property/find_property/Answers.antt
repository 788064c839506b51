use Rattle.std.proofs.Common.{◌≡◌, w32}
use Rattle.std.proofs.lemmas.Int.{to_z-of_z}
use Rattle.spec_world.specs.Inherit.{slot_at, property_value}
use Rattle.view.specs.Law.{Tells}
use Rattle.rules.proofs.Tellings.{if_ok_as, known_on, told_on}
use Rattle.rules.proofs.inherit.property.find_property.Goals as goal

pub value_of-requires-clause-well_formed : goal.value_of-requires-clause-well_formed
value_of-requires-clause-well_formed g c =
    let object = to_z-of_z w32 c.args.object c.ranges.object in
    known_on g.V.View.holds g.V.View.now c.args.view.now c.read_slot.new.view (λ w. slot_at w c.args.object c.args.name.now ≡ c.in_ok-slot.slot) c.requires.well_formed (rw object at c.in_ok-slot.ensures.left)

pub returns-clause-left : goal.returns-clause-left
returns-clause-left g c =
    let object = to_z-of_z w32 c.args.object c.ranges.object in
    if_ok_as
    (λ v. Tells g.V.View.holds g.V.View.now c.read_slot.new.view c.value_of.new.view (λ w. property_value w c.args.object c.args.name.now ≡ v))
    (λ v. Tells g.V.View.holds g.V.View.now c.args.view.now c.value_of.new.view (λ w. property_value w c.args.object c.args.name.now ≡ v))
    (λ v told. told_on g.V.View.holds g.V.View.now c.args.view.now c.read_slot.new.view c.value_of.new.view (λ w. slot_at w c.args.object c.args.name.now ≡ c.in_ok-slot.slot)
    (λ w. property_value w c.args.object c.args.name.now ≡ v) (λ w. property_value w c.args.object c.args.name.now ≡ v)
    c.requires.well_formed (rw object at c.in_ok-slot.ensures.left) told (λ w sound is so. so))
    c.value_of.result (rw object at c.value_of.ensures.left)
