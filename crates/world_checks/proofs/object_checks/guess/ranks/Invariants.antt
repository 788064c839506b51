use Rattle.std.proofs.Common.{◌≡◌, ℕ, ℤ, []}
use Rattle.world_checks.specs.Guessed.{IsDepth, AllMarked, AllListed}
use Rattle.world_checks.proofs.Climbing.{RankedTo}
use Rattle.world_checks.proofs.object_checks.guess.ranks.Given as goal

abbrev pub invariant-loop-number : goal.invariant-loop-number
invariant-loop-number l =
    record {
      empty : l.line.items ≡ [];
      ranked : AllMarked l.draft → AllListed l.draft l.numbers → (depth : ℤ → ℕ) → IsDepth l.way l.draft depth → RankedTo depth l.draft l.numbers l.ranks l.number-index;
    }
