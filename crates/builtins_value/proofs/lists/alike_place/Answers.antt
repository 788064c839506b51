use Rattle.moo_value.proofs.Listing.{item_count-of_list}
use Rattle.builtins_value.proofs.lists.alike_place.Goals as goal

pub returns-clause-inside : goal.returns-clause-inside
returns-clause-inside c = rw (item_count-of_list c.args.items.now) c.first_alike.ensures.inside
