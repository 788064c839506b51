-- What is known is right, and from the place that is come to the same is found as from the start.
use Rattle.std.proofs.Common.{◌≡◌, ◌<◌, ℕ, List, Bool, Some, length, IsTrue, slice_index_or}
use Rattle.upwards.specs.declared.nearest.Nearest.TheVariants.{Unknown}
use Rattle.upwards.specs.Ways.{IsWay, IsRight, first_filled, nearest_of, is_known}
use Rattle.upwards.proofs.nearest.Upwards.note.Given as goal

abbrev pub invariant-loop-step : goal.invariant-loop-step
invariant-loop-step l =
    record {
      parents : l.self.parents.items ≡ l.fn.self.parents.items;
      count : length l.self.nearest.items ≡ length l.fn.self.nearest.items;
      right : (filled : List Bool) (line : List ℕ) → IsRight filled l.fn.self → IsWay l.fn.self.parents.items (Some l.start) line
          → l.found ≡ nearest_of (first_filled filled line)
          → IsRight filled l.self
          × ((later : List ℕ) × IsWay l.fn.self.parents.items (Some l.place) later × (first_filled filled later ≡ first_filled filled line));
      known : IsTrue (is_known l.found) → (i : ℕ) → IsTrue (is_known (slice_index_or l.fn.self.nearest.items i Unknown)) → IsTrue (is_known (slice_index_or l.self.nearest.items i Unknown));
      first : l._step ≡ 0 → l.place ≡ l.start;
      start : 0 < l._step → IsTrue (is_known l.found) → l.start < length l.fn.self.nearest.items → IsTrue (is_known (slice_index_or l.self.nearest.items l.start Unknown));
    }
