use Rattle.std.proofs.Common.{◌≡◌, ℕ, ◌+◌, ◌<◌, ◌^◌, ℤ, length, take, vec_len, IsTrue}
use Rattle.std.specs.List.{list_all}
use Rattle.world_checks.specs.Marks.{may_mark}
use Rattle.world_checks.specs.Guessed.{FallsFrom}
use Rattle.world_checks.proofs.Climbing.{Settling}
use Rattle.world_checks.proofs.object_checks.guess.settle.Given as goal

abbrev pub decreases-loop-number : goal.decreases-loop-number
decreases-loop-number l = vec_len l.line

abbrev pub invariant-loop-number : goal.invariant-loop-number
invariant-loop-number l =
    record {
      first : l.line.items ≡ take (length l.line.items) l.fn.line.items;
      back : (depth : ℤ → ℕ) (total : ℕ) → FallsFrom depth total l.fn.line.items → l.above + length l.fn.line.items ≡ total → total < 2 ^ 64 → IsTrue (list_all may_mark l.fn.line.items)
          → Settling depth total l.fn.line.items l.fn.ranks l.ranks l.rank (length l.line.items);
    }
