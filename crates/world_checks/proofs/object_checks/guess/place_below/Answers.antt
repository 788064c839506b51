use Rattle.std.proofs.Common.{◌≡◌, Some, rules}
use Rattle.spec_world.specs.World.{object_at}
use Rattle.world_checks.proofs.Below.{placed_one}
use Rattle.world_checks.proofs.object_checks.guess.place_below.Goals as goal

pub returns : goal.returns
returns c may agree =
    let at : object_at c.args.draft.now c.args.number ≡ Some c.in-Some.object.now = first_of (cc, search rules) in
    let places = rw c.down.ensures at c.in_ok-put_places.ensures.places in
    let others = rw c.down.ensures at c.in_ok-put_places.ensures.others in
    placed_one c.args.way c.args.draft.now c.args.places.now c.put_places.new.marks c.args.number c.in-Some.object.now at may agree places others
