use Rattle.std.proofs.Common.{w32}
use Rattle.std.proofs.lemmas.Int.{to_z-of_z}
use Rattle.rules.proofs.Changes.{put_told}
use Rattle.rules.proofs.relatives.children.put_below.Goals as goal

pub returns-clause-left : goal.returns-clause-left
returns-clause-left g c =
    let object = to_z-of_z w32 c.args.object c.ranges.object in
    let before = to_z-of_z w32 c.args.before c.ranges.before in
    let parent = to_z-of_z w32 c.args.parent c.ranges.parent in
    put_told g.V.View.holds g.V.View.now c.args.view.now c.lose_child.new.view c.put_parent.new.view c.add_child.new.view c.add_child.result c.args.object c.args.before c.args.parent
    (rw (object, before) at c.in_ok-lose_child.ensures.left) (rw (object, parent) at c.in_ok-put_parent.ensures.left) (rw (object, parent) at c.add_child.ensures.left)
