use Rattle.moo_value.proofs.Listing.{first_items-of_list}
use Rattle.moo_arith.proofs.Parts.{take_min}
use Rattle.moo_arith.proofs.scatter.front.Goals as goal

pub returns : goal.returns
returns c =
    let made = rw (c.in_ok-push_all.ensures, c.new-chosen.ensures.items, c.min.ensures) at c.list.ensures in
    rw (first_items-of_list c.args.count c.args.items.now, ← take_min c.args.items.now c.args.count) made
