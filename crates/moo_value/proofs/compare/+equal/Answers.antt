use Rattle.std.proofs.Common.{◌≤◌, arith}
use Rattle.spec_value.specs.Datum.{of_list}
use Rattle.moo_value.specs.Depth.{depth, data_depth}
use Rattle.moo_value.proofs.Listing.{depth_item, same_lists}
use Rattle.moo_value.proofs.compare.+equal.Goals as goal

pub equal_items-equal-requires : goal.equal_items-equal-requires
equal_items-equal-requires t c =
    let h : depth c.index-xs-i.result ≤ data_depth (of_list c.args.xs.now) = rw c.index-xs-i.is (depth_item _ _ _ c.loop-i-test.true) in
    (omega (arith, h), tt)

pub equal-returns-in-List-List : goal.equal-returns-in-List-List
equal-returns-in-List-List t c =
    rw (← c.in-List-List.ensures, ← c.in-List-List.ensures') (same_lists _ _ _ c.equal_items.ensures)
