use Rattle.std.proofs.Common.{w32}
use Rattle.std.proofs.lemmas.Int.{to_z-of_z}
use Rattle.moo_value.proofs.Listing.{item_count-of_list}
use Rattle.moo_arith.proofs.index.item_place.Goals as goal

pub returns-clause-place : goal.returns-clause-place
returns-clause-place c =
    let found = rw (to_z-of_z w32 c.args.place c.ranges.place) at c.place_in.ensures.place in
    rw (item_count-of_list c.args.items.now) found

pub returns-clause-inside : goal.returns-clause-inside
returns-clause-inside c = rw (item_count-of_list c.args.items.now) c.place_in.ensures.inside
