use Rattle.moo_value.proofs.Listing.{item_count-of_list}
use Rattle.builtins_value.proofs.lists.place_up_to.Goals as goal

pub returns : goal.returns
returns c = rw (item_count-of_list c.args.items.now) c.min.ensures
