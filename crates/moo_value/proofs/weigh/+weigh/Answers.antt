use Rattle.std.proofs.Common.{◌≤◌, arith}
use Rattle.spec_value.specs.Datum.{of_list}
use Rattle.moo_value.specs.Depth.{depth, data_depth}
use Rattle.moo_value.proofs.Listing.{depth_item}
use Rattle.moo_value.proofs.weigh.+weigh.Goals as goal

pub counted_items-counted-requires : goal.counted_items-counted-requires
counted_items-counted-requires t c =
    let h : depth c.item-item.result ≤ data_depth (of_list c.args.items.now) = rw c.item-item.is (depth_item _ _ _ c.loop-item-test.true) in
    (omega (arith, h), tt)
