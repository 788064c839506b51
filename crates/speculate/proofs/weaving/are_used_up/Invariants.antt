use Rattle.std.proofs.Common.{◌≡◌, ◌<◌, ℕ, [], Some, slice_get}
use Rattle.speculate.specs.declared.lane.Lane.{Lane}
use Rattle.speculate.proofs.weaving.are_used_up.Given as goal

abbrev pub invariant-lane : goal.invariant-lane
invariant-lane l = (i : ℕ) (a : Lane) → i < l.lane → slice_get l.lanes i ≡ Some a → a.told.items ≡ []
