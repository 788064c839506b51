use Rattle.std.proofs.Common.{◌≡◌, ◌+◌, ◌-◌, ◌^◌, ◌<◌, min, drop}
use Rattle.spec_value.specs.Datum.{of_list, data_weight}
use Rattle.moo_value.proofs.items.weight.Given as goal

abbrev pub invariant-loop-item : goal.invariant-loop-item
invariant-loop-item l =
    (l.sum < 2 ^ 32) × (min (l.sum + data_weight (of_list (drop l.item-index l.items))) (2 ^ 32 - 1) ≡ min (data_weight (of_list l.items)) (2 ^ 32 - 1))
