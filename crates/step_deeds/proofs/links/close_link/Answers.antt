use Rattle.std.proofs.Common.{w32}
use Rattle.std.proofs.lemmas.Int.{to_z-of_z}
use Rattle.step_deeds.proofs.Closing.{closed, closed_well}
use Rattle.step_deeds.proofs.links.close_link.Goals as goal

pub returns-clause-left : goal.returns-clause-left
returns-clause-left g c =
    let connection = to_z-of_z w32 c.args.connection c.ranges.connection in
    closed g.V.View.holds g.V.View.now c.args.view.now c.drop_reader.new.view c.write_link.new.view c.args.connection c.requires.well_formed
    (rw connection at c.in_ok-drop_reader.ensures.left) (rw connection at c.in_ok-write_link.ensures.left)

pub returns-clause-well_formed : goal.returns-clause-well_formed
returns-clause-well_formed g c =
    closed_well g.V.View.holds g.V.View.now c.args.view.now c.write_link.new.view c.args.connection c.requires.well_formed (returns-clause-left g c)
