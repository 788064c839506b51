use Rattle.std.proofs.Common.{w32}
use Rattle.std.proofs.lemmas.Int.{to_z-of_z}
use Rattle.builtins_view.proofs.Changing.{hung_told}
use Rattle.builtins_view.proofs.reparenting.reparent.reparent.Goals as goal

pub returns-clause-left : goal.returns-clause-left
returns-clause-left g c =
    let object = to_z-of_z w32 c.args.object c.ranges.object in
    let before = to_z-of_z w32 c.args.before c.ranges.before in
    let parent = to_z-of_z w32 c.args.parent c.ranges.parent in
    hung_told g.V.View.holds g.V.View.now c.args.object c.args.before c.args.parent c.args.family.now c.args.view.now c.change_heirs.new.view c.put_below.new.view c.put_below.result
    (rw (object, before, parent) at c.in_ok-change_heirs.ensures.left) (rw (object, before, parent) at c.put_below.ensures.left)
