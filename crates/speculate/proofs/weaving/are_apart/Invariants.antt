use Rattle.std.proofs.Common.{◌<◌, ℕ}
use Rattle.speculate.specs.Lanes.{ArePairApart}
use Rattle.speculate.proofs.weaving.are_apart.Given as goal

abbrev pub invariant-one : goal.invariant-one
invariant-one l = (i : ℕ) → i < l.one → (j : ℕ) → ArePairApart l.lanes i j
