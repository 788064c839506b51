use Rattle.std.proofs.Common.{◌≡◌, ◌<◌, ℕ, ℤ, Some, slice_get}
use Rattle.speculate.specs.Tables.{IsThere}
use Rattle.speculate.proofs.fence.are_free.Given as goal

abbrev pub invariant-at : goal.invariant-at
invariant-at l = (k : ℕ) (o : ℤ) → k < l.at → slice_get l.objects k ≡ Some o → IsThere l.table o → ⊥
