use Rattle.std.proofs.Common.{◌++◌, [], ◌∷◌, w32}
use Rattle.std.proofs.lemmas.Int.{to_z-of_z}
use Rattle.builtins_view.specs.Slots.{getting}
use Rattle.builtins_view.proofs.OneChange.{family_told}
use Rattle.builtins_view.proofs.Slots.{getting_again, own, heir, own_first, heirs_else, added_told}
use Rattle.builtins_view.proofs.builtins_family.adding.define.Goals as goal

pub returns-clause-left : goal.returns-clause-left
returns-clause-left g c =
    let object = to_z-of_z w32 c.args.object c.ranges.object in
    added_told g.V.View.holds g.V.View.now c.args.view.now c.give_slots.new.view c.give_slots.result c.args.object c.args.family.now c.args.names.now c.args.name.now c.args.slot.now
    (family_told g.V.View.holds g.V.View.now c.args.view.now c.write_part.new.view c.give_slots.new.view c.give_slots.result c.args.object c.args.family.now c.args.names.now c.in_ok-more.more
    (λ ts. ts ++ c.args.name.now ∷ []) (getting c.args.object c.args.name.now c.args.slot.now) (own c.args.name.now c.args.slot.now) (heir c.args.name.now c.args.slot.now)
    (getting_again c.args.object c.args.name.now c.args.slot.now) (own_first c.args.object c.args.name.now c.args.slot.now) (heirs_else c.args.object c.args.name.now c.args.slot.now)
    c.in_ok-more.ensures (rw object at c.in_ok-write_part.ensures.left) (rw object at c.give_slots.ensures.left))
