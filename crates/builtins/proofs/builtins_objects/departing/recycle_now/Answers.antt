use Rattle.std.proofs.Common.{w32}
use Rattle.std.proofs.lemmas.Int.{to_z-of_z}
use Rattle.builtins.proofs.Departures.{departs_well}
use Rattle.builtins.proofs.builtins_objects.departing.recycle_now.Goals as goal

pub returns-clause-left : goal.returns-clause-left
returns-clause-left g c =
    let object = to_z-of_z w32 c.args.object c.ranges.object in
    rw object at c.depart.ensures.left

pub returns-clause-well_formed : goal.returns-clause-well_formed
returns-clause-well_formed g c =
    let object = to_z-of_z w32 c.args.object c.ranges.object in
    departs_well g.V.View.holds g.V.View.now c.args.view.now c.depart.new.view c.args.deeds.now c.depart.new.deeds c.args.object c.depart.result
    (rw object at c.depart.ensures.left) c.requires.well_formed
