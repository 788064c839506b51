use Rattle.std.proofs.Common.{◌≡◌, ◌≤◌, ℕ, ℤ, []}
use Rattle.world_checks.specs.Guessed.{IsDepth, AllMarked, MayBeRanked}
use Rattle.world_checks.proofs.Climbing.{Climbing}
use Rattle.world_checks.proofs.object_checks.guess.climb.Given as goal

abbrev pub invariant-loop : goal.invariant-loop
invariant-loop l =
    AllMarked l.draft → (depth : ℤ → ℕ) → IsDepth l.way l.draft depth → MayBeRanked depth l.draft l.fn.ranks → l.fn.line.items ≡ [] → depth l.from ≤ l.most
    → Climbing depth l.draft l.fn.ranks l.ranks l.from l.here l.line.items l.counter
