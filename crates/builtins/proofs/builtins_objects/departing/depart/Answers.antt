use Rattle.std.proofs.Common.{◌≡◌, true, is_some, w32}
use Rattle.std.proofs.lemmas.Int.{to_z-of_z}
use Rattle.spec_world.specs.World.{object_at}
use Rattle.rules.proofs.Tellings.{known_on}
use Rattle.builtins.proofs.Departures.{departs_not, departs}
use Rattle.builtins.proofs.builtins_objects.departing.depart.Goals as goal

pub returns-then-not-there-clause-left : goal.returns-then-not-there-clause-left
returns-then-not-there-clause-left g c =
    let object = to_z-of_z w32 c.args.object c.ranges.object in
    departs_not g.V.View.holds g.V.View.now c.args.object c.args.view.now c.is_there.new.view c.args.deeds.now (rw (object, c.if-not-there.true) at c.in_ok-there.ensures.left)

pub close_connection_of-requires-clause-well_formed : goal.close_connection_of-requires-clause-well_formed
close_connection_of-requires-clause-well_formed g c =
    let object = to_z-of_z w32 c.args.object c.ranges.object in
    known_on g.V.View.holds g.V.View.now c.args.view.now c.is_there.new.view (λ w. is_some (object_at w c.args.object) ≡ true) c.requires.well_formed
    (rw (object, c.if-not-there.false) at c.in_ok-there.ensures.left)

pub recycle_object-requires-clause-well_formed : goal.recycle_object-requires-clause-well_formed
recycle_object-requires-clause-well_formed g c =
    c.in_ok-close_connection_of.ensures.well_formed

pub returns-clause-left : goal.returns-clause-left
returns-clause-left g c =
    let object = to_z-of_z w32 c.args.object c.ranges.object in
    departs g.V.View.holds g.V.View.now c.args.object c.args.view.now c.is_there.new.view c.close_connection_of.new.view c.recycle_object.new.view c.args.deeds.now c.close_connection_of.new.deeds
    c.recycle_object.result (rw (object, c.if-not-there.false) at c.in_ok-there.ensures.left) (rw object at c.in_ok-close_connection_of.ensures.left)
    (rw object at c.recycle_object.ensures.left)
