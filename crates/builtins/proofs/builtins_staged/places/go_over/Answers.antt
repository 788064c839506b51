use Rattle.std.proofs.Common.{w32}
use Rattle.std.proofs.lemmas.Int.{to_z-of_z}
use Rattle.builtins.proofs.Ways.{went_told, went_well}
use Rattle.builtins.proofs.builtins_staged.places.go_over.Goals as goal

pub returns-clause-left : goal.returns-clause-left
returns-clause-left g c =
    let what = to_z-of_z w32 c.args.what c.ranges.what in
    let before = to_z-of_z w32 c.args.before c.ranges.before in
    let place = to_z-of_z w32 c.args.place c.ranges.place in
    went_told g.V.View.holds g.V.View.now c.args.view.now c.args.what c.args.before c.args.place c.out_of_place.new.view c.put_location.new.view c.put_into.new.view c.put_into.result c.requires.location
    (rw (what, before) at c.in_ok-out_of_place.ensures.left) (rw (what, place) at c.in_ok-put_location.ensures.left) (rw (what, place) at c.put_into.ensures.left)

pub returns-clause-well_formed : goal.returns-clause-well_formed
returns-clause-well_formed g c =
    went_well g.V.View.holds g.V.View.now c.args.view.now c.args.what c.args.before c.args.place c.put_into.new.view c.put_into.result c.requires.well_formed c.requires.may_move (returns-clause-left g c)
