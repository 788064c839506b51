use Rattle.std.proofs.Common.{◌≡◌, ℕ, ◌<◌, get_or, pos}
use Rattle.world_checks.specs.Marks.{mark_of}
use Rattle.world_checks.proofs.table_checks.once.are_places.Given as goal

abbrev pub invariant-loop-index : goal.invariant-loop-index
invariant-loop-index l = (k : ℕ) → k < l.index → mark_of l.marks (get_or l.list k (pos 0)) ≡ k
