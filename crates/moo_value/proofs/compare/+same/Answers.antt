use Rattle.std.proofs.Common.{◌≤◌, arith}
use Rattle.spec_value.specs.Datum.{of_list}
use Rattle.moo_value.specs.Depth.{depth, data_depth}
use Rattle.moo_value.proofs.Listing.{depth_item}
use Rattle.moo_value.proofs.Folding.{same_folded, folded_at}
use Rattle.moo_value.proofs.compare.+same.Goals as goal

pub same-returns-in-List-List : goal.same-returns-in-List-List
same-returns-in-List-List t c = rw (← c.in-List-List.ensures, ← c.in-List-List.ensures') (same_folded _ _ _ c.same_items.ensures)

pub same_items-same-requires : goal.same_items-same-requires
same_items-same-requires t c =
    let h : depth c.index-xs-i.result ≤ data_depth (of_list c.args.xs.now) = rw c.index-xs-i.is (depth_item _ _ _ c.loop-i-test.true) in
    (omega (arith, h), tt)

pub same_items-returns-then-not-same : goal.same_items-returns-then-not-same
same_items-returns-then-not-same t c = (
  λ h. absurd (cc),
  λ e. c.if-not-same.ensures.1 (rw (c.index-xs-i.is, c.index-ys-i.is) (folded_at c.args.xs.now c.args.ys.now c.loop-i.i c.index-xs-i.result c.index-ys-i.result c.loop-i-test.true e)),
)
