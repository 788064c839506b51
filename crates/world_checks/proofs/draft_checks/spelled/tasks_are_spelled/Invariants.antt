use Rattle.std.proofs.Common.{ℕ, ◌<◌, ℤ, get_or}
use Rattle.world_checks.specs.Spelled.{TaskSpelledAt}
use Rattle.world_checks.proofs.draft_checks.spelled.tasks_are_spelled.Given as goal

abbrev pub invariant-loop-id : goal.invariant-loop-id
invariant-loop-id l = (k : ℕ) (d : ℤ) → k < l.id-index → TaskSpelledAt l.draft (get_or l.ids k d)
