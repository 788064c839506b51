use Rattle.std.proofs.Common.{w32}
use Rattle.std.proofs.lemmas.Int.{to_z-of_z}
use Rattle.builtins_view.proofs.Changing.{heirs_told}
use Rattle.builtins_view.proofs.reparenting.reparent.change_heirs.Goals as goal

pub returns-clause-left : goal.returns-clause-left
returns-clause-left g c =
    let before = to_z-of_z w32 c.args.before c.ranges.before in
    let parent = to_z-of_z w32 c.args.parent c.ranges.parent in
    heirs_told g.V.View.holds g.V.View.now c.args.object c.args.before c.args.parent c.args.family.now c.args.view.now c.names_beside.new.view c.slots_beside.new.view c.lose_each.new.view
    c.inherit_each.new.view c.inherit_each.result c.in_ok-lost.lost.items c.in_ok-slots.slots.items c.requires.well_formed
    (rw (before, parent) at c.in_ok-lost.ensures.left) (rw (before, parent) at c.in_ok-slots.ensures.left)
    (rw c.as_slice.ensures.value at c.in_ok-lose_each.ensures.left) (rw c.as_slice-2.ensures.value at c.inherit_each.ensures.left)
