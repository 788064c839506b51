use Rattle.std.proofs.Common.{◌≡◌, OnOk, ap, ◌∙◌, subst, rules, w32, to_z, of_z}
use Rattle.std.proofs.lemmas.Int.{to_z-of_z}
use Rattle.spec_world.specs.World.{Header}
use Rattle.spec_world.specs.Inherit.{with_slot}
use Rattle.view.specs.Law.{Goes}
use Rattle.builtins_view.specs.Slots.{slot_for}
use Rattle.builtins_view.proofs.Slots.{got_told}
use Rattle.builtins_view.proofs.builtins_family.each.give_slot.Goals as goal

pub returns-clause-left : goal.returns-clause-left
returns-clause-left g c =
    let object = to_z-of_z w32 c.args.object c.ranges.object in
    let definer = to_z-of_z w32 c.args.definer c.ranges.definer in
    let whole : to_z w32 (of_z w32 c.header.inside.owner) ≡ c.header.inside.owner = search rules in
    let owner : to_z w32 (of_z w32 c.header.inside.owner) ≡ c.in-Some.header.owner = whole ∙ ap (λ (h : Header). h.owner) c.header.view_is in
    let slot : c.in_ok-slot.slot ≡ slot_for c.args.definer c.args.slot.now c.args.object c.in-Some.header.owner =
    (rw (object, definer) at c.in_ok-slot.ensures) ∙ ap (slot_for c.args.definer c.args.slot.now c.args.object) owner
    in
    got_told g.V.View.holds g.V.View.now c.args.view.now c.read_header.new.view c.put_slot.new.view c.put_slot.result c.args.definer c.args.name.now c.args.slot.now c.args.object c.in-Some.header
    (rw (object, c.in-Some.is) at c.in_ok-header.ensures.left)
    (subst (λ t. OnOk c.put_slot.result (Goes g.V.View.holds g.V.View.now c.read_header.new.view c.put_slot.new.view (λ before after. after ≡ with_slot before c.args.object c.args.name.now t))) slot
    (rw object at c.put_slot.ensures.left))
