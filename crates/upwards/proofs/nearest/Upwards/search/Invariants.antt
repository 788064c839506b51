-- From the place that is come to, the same is found as from the start.
use Rattle.std.proofs.Common.{◌≡◌, ◌≤◌, ◌+◌, ℕ, List, Bool, Some, length}
use Rattle.upwards.specs.Ways.{IsWay, IsRight, first_filled}
use Rattle.upwards.proofs.nearest.Upwards.search.Given as goal

abbrev pub invariant-loop-step : goal.invariant-loop-step
invariant-loop-step l =
    (filled : List Bool) (line : List ℕ) → IsRight filled l.self → IsWay l.self.parents.items (Some l.start) line → length line ≤ length l.self.parents.items
    → (later : List ℕ) × IsWay l.self.parents.items (Some l.place) later × (length later + l._step ≤ length line) × (first_filled filled later ≡ first_filled filled line)
