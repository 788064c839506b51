use Rattle.std.proofs.Common.{w32}
use Rattle.std.proofs.lemmas.Int.{to_z-of_z}
use Rattle.builtins.proofs.Letting.{let_go_told}
use Rattle.builtins.proofs.builtins_staged.recycling.let_go.Goals as goal

pub returns-clause-left : goal.returns-clause-left
returns-clause-left g c =
    let object = to_z-of_z w32 c.args.object c.ranges.object in
    let_go_told g.V.View.holds g.V.View.now c.args.object c.args.deeds.now c.recycle_now.new.deeds c.args.view.now c.recycle_now.new.view c.integer.result c.integer.ensures
    (rw object at c.in_ok-recycle_now.ensures.left)
