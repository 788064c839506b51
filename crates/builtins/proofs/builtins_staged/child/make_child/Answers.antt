use Rattle.std.proofs.Common.{w32}
use Rattle.std.proofs.lemmas.Int.{to_z-of_z}
use Rattle.builtins.proofs.Children.{made_told, made_well}
use Rattle.builtins.proofs.builtins_staged.child.make_child.Goals as goal

pub returns-clause-left : goal.returns-clause-left
returns-clause-left g c =
    let parent = to_z-of_z w32 c.args.parent c.ranges.parent in
    let owner = to_z-of_z w32 c.args.owner c.ranges.owner in
    let number = to_z-of_z w32 c.args.number c.ranges.number in
    made_told g.V.View.holds g.V.View.now c.args.view.now c.heir_slots.new.view c.write_greatest.new.view c.write_object.new.view c.add_child.new.view c.add_child.result
    c.args.parent c.args.owner c.args.number c.in_ok-slots.slots c.in_ok-child.child c.requires.well_formed c.requires.next
    (rw (parent, owner) at c.in_ok-slots.ensures.left) (rw (parent, owner) at c.in_ok-child.ensures) (rw number at c.in_ok-write_greatest.ensures.left)
    (rw number at c.in_ok-write_object.ensures.left) (rw (parent, number) at c.add_child.ensures.left)

pub returns-clause-well_formed : goal.returns-clause-well_formed
returns-clause-well_formed g c =
    made_well g.V.View.holds g.V.View.now c.args.view.now c.add_child.new.view c.add_child.result c.args.parent c.args.owner c.args.number c.requires.well_formed c.requires.place c.requires.next
    (returns-clause-left g c)
