use Rattle.std.proofs.Common.{◌≡◌, ◌≤◌, length, drop, slice_index}
use Rattle.moo_places.specs.Reaching.{reach}
use Rattle.tree_parts.specs.Turns.{reached_from}
use Rattle.tree_parts.proofs.frame_paths.reach.reach.Given as goal

abbrev pub invariant-loop-step : goal.invariant-loop-step
invariant-loop-step l =
    (l.depth ≤ length l.path)
    × (reached_from (drop l.step-index l.steps) (drop l.depth l.path) l.way ≡ reach l.steps 0 (slice_index l.path 0) (drop 1 l.path) 0)
