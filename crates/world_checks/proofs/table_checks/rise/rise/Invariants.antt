use Rattle.std.proofs.Common.{ℕ, ◌+◌, ◌<◌, get_or, pos, ◌<ℤ◌}
use Rattle.world_checks.proofs.table_checks.rise.rise.Given as goal

abbrev pub invariant-loop-index : goal.invariant-loop-index
invariant-loop-index l = (k : ℕ) → k + 1 < l.index → get_or l.numbers k (pos 0) <ℤ get_or l.numbers (k + 1) (pos 0)
