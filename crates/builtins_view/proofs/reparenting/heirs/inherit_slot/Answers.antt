use Rattle.std.proofs.Common.{◌≡◌, OnOk, ap, not, false, is_some, ◌∙◌, subst, rules, w32, to_z, of_z}
use Rattle.std.proofs.lemmas.Int.{to_z-of_z}
use Rattle.spec_world.specs.World.{Header}
use Rattle.spec_world.specs.Inherit.{with_slot}
use Rattle.spec_world.specs.Families.{heir_slot}
use Rattle.view.specs.Law.{Goes}
use Rattle.builtins_view.proofs.OneHeir.{heir_told}
use Rattle.builtins_view.proofs.reparenting.heirs.inherit_slot.Goals as goal

pub returns-clause-left : goal.returns-clause-left
returns-clause-left g c =
    let object = to_z-of_z w32 c.args.object c.ranges.object in
    let whole : to_z w32 (of_z w32 c.header.inside.owner) ≡ c.header.inside.owner = search rules in
    let owner : to_z w32 (of_z w32 c.header.inside.owner) ≡ c.in-Some.header.owner = whole ∙ ap (λ (h : Header). h.owner) c.header.view_is in
    let slot : c.in_ok-slot.slot ≡ heir_slot c.in-Some.header.owner c.args.slot.now = c.in_ok-slot.ensures ∙ ap (λ n. heir_slot n c.args.slot.now) owner in
    let none : is_some c.in_ok-own.own ≡ false = cc (c.is_some.ensures, c.if-is_some.false) in
    heir_told g.V.View.holds g.V.View.now c.args.view.now c.read_slot.new.view c.read_header.new.view c.put_slot.new.view c.args.object c.args.name.now c.args.slot.now
    c.put_slot.result c.in_ok-own.own c.in-Some.header (ap not none)
    (rw object at c.in_ok-own.ensures.left)
    (rw (object, c.in-Some.is) at c.in_ok-header.ensures.left)
    (subst (λ t. OnOk c.put_slot.result (Goes g.V.View.holds g.V.View.now c.read_header.new.view c.put_slot.new.view (λ was is. is ≡ with_slot was c.args.object c.args.name.now t))) slot
    (rw object at c.put_slot.ensures.left))
