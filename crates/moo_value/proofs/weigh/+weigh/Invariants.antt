use Rattle.std.proofs.Common.{◌≡◌, ◌+◌, ◌*◌, ◌-◌, ◌^◌, ◌<◌, min, drop}
use Rattle.spec_value.specs.Datum.{of_list, data_weight}
use Rattle.moo_value.specs.Depth.{depth, data_depth}
use Rattle.moo_value.proofs.weigh.+weigh.Given as goal

abbrev pub decreases-counted : goal.decreases-counted
decreases-counted l = 2 * depth l.value.now

abbrev pub decreases-counted_items : goal.decreases-counted_items
decreases-counted_items l = 2 * data_depth (of_list l.items.now) + 1

abbrev pub invariant-counted_items-loop-item : goal.invariant-counted_items-loop-item
invariant-counted_items-loop-item l =
    (l.sum < 2 ^ 64) × (min (l.sum + data_weight (of_list (drop l.item-index l.items))) (2 ^ 64 - 1) ≡ min (data_weight (of_list l.items)) (2 ^ 64 - 1))
