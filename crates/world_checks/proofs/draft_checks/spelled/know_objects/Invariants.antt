use Rattle.std.proofs.Common.{ℕ, ◌<◌, ℤ, get_or}
use Rattle.world_checks.specs.Spelled.{ObjectSpelledAt}
use Rattle.world_checks.proofs.draft_checks.spelled.know_objects.Given as goal

abbrev pub invariant-loop-number : goal.invariant-loop-number
invariant-loop-number l = (k : ℕ) (d : ℤ) → k < l.number-index → ObjectSpelledAt l.draft (get_or l.numbers k d)
