use Rattle.std.proofs.Common.{w32}
use Rattle.std.proofs.lemmas.Int.{to_z-of_z}
use Rattle.moo_value.proofs.Listing.{item_count-of_list}
use Rattle.moo_arith.proofs.index.item_cut.Goals as goal

pub returns-clause-cut : goal.returns-clause-cut
returns-clause-cut c =
    let found = rw (to_z-of_z w32 c.args.first c.ranges.first, to_z-of_z w32 c.args.last c.ranges.last) at c.cut.ensures.cut in
    rw (item_count-of_list c.args.items.now) found

pub returns-clause-inside : goal.returns-clause-inside
returns-clause-inside c = rw (item_count-of_list c.args.items.now) c.cut.ensures.inside
