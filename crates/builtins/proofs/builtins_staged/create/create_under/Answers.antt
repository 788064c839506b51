use Rattle.std.proofs.Common.{w32}
use Rattle.std.proofs.lemmas.Int.{to_z-of_z}
use Rattle.builtins.proofs.Creating.{begun_told}
use Rattle.builtins.proofs.builtins_staged.create.create_under.Goals as goal

pub returns-clause-left : goal.returns-clause-left
returns-clause-left g c =
    let parent = to_z-of_z w32 c.args.parent c.ranges.parent in
    let owner = to_z-of_z w32 c.args.owner c.ranges.owner in
    let number = to_z-of_z w32 c.args.number c.ranges.number in
    begun_told g.V.View.holds g.V.View.now c.args.call.now c.args.parent c.args.owner c.args.arguments.items c.args.view.now c.make_child.new.view c.initialize.new.view c.args.number c.in_ok-effect.effect
    c.requires.next (rw (parent, owner) at c.in_ok-make_child.ensures.left) (rw number at c.in_ok-effect.ensures.left)
