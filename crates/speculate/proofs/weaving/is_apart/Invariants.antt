use Rattle.std.proofs.Common.{◌<◌, ℕ}
use Rattle.speculate.specs.Lanes.{ArePairApart}
use Rattle.speculate.proofs.weaving.is_apart.Given as goal

abbrev pub invariant-other : goal.invariant-other
invariant-other l = (j : ℕ) → j < l.other → ArePairApart l.lanes l.one j
