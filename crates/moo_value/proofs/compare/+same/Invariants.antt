use Rattle.std.proofs.Common.{◌≡◌, ◌+◌, ◌*◌, take, map}
use Rattle.spec_value.specs.Datum.{of_list}
use Rattle.moo_value.specs.Depth.{depth, data_depth}
use Rattle.spec_value.specs.Datum.{folded}
use Rattle.moo_value.proofs.compare.+same.Given as goal

abbrev pub decreases-same : goal.decreases-same
decreases-same l = 2 * depth l.a.now

abbrev pub decreases-same_items : goal.decreases-same_items
decreases-same_items l = 2 * data_depth (of_list l.xs.now) + 1

abbrev pub invariant-same_items-loop-i : goal.invariant-same_items-loop-i
invariant-same_items-loop-i l = map folded (take l.i l.xs) ≡ map folded (take l.i l.ys)
