use Rattle.std.proofs.Common.{w32}
use Rattle.std.proofs.lemmas.Int.{to_z-of_z}
use Rattle.builtins.proofs.Gone.{gone_well}
use Rattle.builtins.proofs.builtins_objects.recycling.recycle_object.Goals as goal

pub returns-clause-well_formed : goal.returns-clause-well_formed
returns-clause-well_formed g c free =
    let object = to_z-of_z w32 c.args.object c.ranges.object in
    gone_well g.V.View.holds g.V.View.now c.args.view.now c.let_go.new.view c.let_go.result c.args.object (rw object at c.let_go.ensures.left) c.requires.well_formed free

pub returns-clause-left : goal.returns-clause-left
returns-clause-left g c =
    let object = to_z-of_z w32 c.args.object c.ranges.object in
    rw object at c.let_go.ensures.left
