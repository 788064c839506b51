use Rattle.std.proofs.Common.{◌≡◌, ◌+◌, ◌*◌, take}
use Rattle.spec_value.specs.Datum.{of_list}
use Rattle.moo_value.specs.Depth.{depth, data_depth}
use Rattle.moo_value.proofs.compare.+equal.Given as goal

abbrev pub decreases-equal : goal.decreases-equal
decreases-equal l = 2 * depth l.a.now

abbrev pub decreases-equal_items : goal.decreases-equal_items
decreases-equal_items l = 2 * data_depth (of_list l.xs.now) + 1

abbrev pub invariant-equal_items-loop-i : goal.invariant-equal_items-loop-i
invariant-equal_items-loop-i l = take l.i l.xs ≡ take l.i l.ys
