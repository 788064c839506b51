use Rattle.std.proofs.Common.{sym}
use Rattle.moo_value.proofs.Listing.{item_count-of_list}
use Rattle.moo_arith.proofs.scatter.item_count_in.Goals as goal

pub returns : goal.returns
returns c = sym (item_count-of_list c.args.items.now)
