use Rattle.std.proofs.Common.{◌≡◌, drop, ◌∙◌, w32}
use Rattle.std.proofs.lemmas.Int.{to_z-of_z}
use Rattle.spec_world.specs.Inherit.{ancestors, slot_at, first_value, property_value}
use Rattle.view.specs.Law.{Tells}
use Rattle.rules.proofs.Walks.{settled_value, clear_value}
use Rattle.rules.proofs.Tellings.{if_ok_as, told_before, told_with}
use Rattle.rules.proofs.inherit.property.value_of.Goals as goal

pub returns-in-Settled-clause-left : goal.returns-in-Settled-clause-left
returns-in-Settled-clause-left g c =
    told_before g.V.View.holds g.V.View.now c.args.view.now (λ w. property_value w c.args.object c.args.name.now ≡ c.in-Settled.value)
    (λ w is. settled_value (g.V.View.now c.args.view.now w) c.args.object c.args.name.now c.args.slot c.in-Settled.value (c.requires.well_formed w is).objects (c.requires.slot w is) (rw c.in-Settled.is at c.in_ok-own.ensures))

pub returns-in-Clear-clause-left : goal.returns-in-Clear-clause-left
returns-in-Clear-clause-left g c =
    let object = to_z-of_z w32 c.args.object c.ranges.object in
    if_ok_as
    (λ v. Tells g.V.View.holds g.V.View.now c.args.view.now c.inherited.new.view (λ w. first_value w (drop 1 (ancestors w c.args.object)) c.args.name.now ≡ v))
    (λ v. Tells g.V.View.holds g.V.View.now c.args.view.now c.inherited.new.view (λ w. property_value w c.args.object c.args.name.now ≡ v))
    (λ v told. told_with g.V.View.holds g.V.View.now c.args.view.now c.inherited.new.view (λ w. slot_at w c.args.object c.args.name.now ≡ c.args.slot)
    (λ w. first_value w (drop 1 (ancestors w c.args.object)) c.args.name.now ≡ v) (λ w. property_value w c.args.object c.args.name.now ≡ v)
    c.requires.well_formed c.requires.slot told (λ w sound is so. clear_value w c.args.object c.args.name.now c.args.slot sound is (rw c.in-Clear.is at c.in_ok-own.ensures) ∙ so))
    c.inherited.result (rw object at c.inherited.ensures.left)
