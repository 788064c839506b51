use Rattle.moo_value.proofs.Listing.{are_values_more}
use Rattle.moo_value.proofs.items.know_all.Goals as goal

pub loop-item-preserved : goal.loop-item-preserved
loop-item-preserved c = are_values_more _ _ c.item-item.result c.loop-item-test.true c.loop-item.invariant (rw c.item-item.is at c.know.ensures)
