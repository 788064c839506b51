use Rattle.std.proofs.Common.{w32}
use Rattle.std.proofs.lemmas.Int.{to_z-of_z}
use Rattle.spec_world.specs.World.{Header, Object}
use Rattle.rules.proofs.Changes.{part_told}
use Rattle.rules.proofs.relatives.contents.put_location.Goals as goal

pub returns-clause-left : goal.returns-clause-left
returns-clause-left g c =
    let object = to_z-of_z w32 c.args.object c.ranges.object in
    let place = to_z-of_z w32 c.args.place c.ranges.place in
    part_told (λ (x : Object). x.header) (λ h y. record y { header = h }) g.V.View.holds g.V.View.now c.args.view.now c.read_header.new.view c.write_part.new.view c.write_part.result c.args.object
    c.in-Some.header c.with_location-moved.result (λ (h : Header). record h { location = c.args.place }) (rw place at c.with_location-moved.ensures)
    (rw (object, c.in-Some.is) at c.in_ok-header.ensures.left) (rw object at c.write_part.ensures.left)
