use Rattle.std.proofs.Common.{◌≡◌, ◌<◌, ℕ, false, length, slice_index_or}
use Rattle.upwards.specs.declared.nearest.Nearest.TheVariants.{Unknown}
use Rattle.upwards.specs.Ways.{own_nearest}
use Rattle.named_objects.specs.Ways.{filled_of}
use Rattle.named_objects.proofs.names.definers.Given as goal

abbrev pub invariant-loop-place : goal.invariant-loop-place
invariant-loop-place l =
    (length l.nearest.items ≡ l.place)
    × ((k : ℕ) → k < l.place → slice_index_or l.nearest.items k Unknown ≡ own_nearest k (slice_index_or (filled_of l.records) k false))
