use Rattle.std.proofs.Common.{◌≤◌, ap, arith}
use Rattle.spec_value.specs.Datum.{of_list}
use Rattle.moo_value.specs.Depth.{depth, data_depth}
use Rattle.moo_value.proofs.Listing.{depth_item}
use Rattle.slot_content.proofs.writing.+literal.Goals as goal

pub put_items-put_value-requires-in-loop-item : goal.put_items-put_value-requires-in-loop-item
put_items-put_value-requires-in-loop-item t c =
    let h : depth c.item-item.result ≤ data_depth (of_list c.in-Some.others.now) = rw c.item-item.is (depth_item _ _ _ c.loop-item-test.true) in
    let e = ap (λ ds. data_depth (of_list ds)) c.in-Some.ensures.cases.0 in
    (omega (arith, h, e), tt)
