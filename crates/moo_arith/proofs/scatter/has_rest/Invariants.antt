use Rattle.std.proofs.Common.{◌≡◌, drop, map}
use Rattle.spec_value.specs.Scatter.{has_rest}
use Rattle.moo_arith.specs.Targets.{kind_of}
use Rattle.moo_arith.proofs.scatter.has_rest.Given as goal

abbrev pub invariant-loop-target : goal.invariant-loop-target
invariant-loop-target l = has_rest (map kind_of (drop l.target-index l.targets)) ≡ has_rest (map kind_of l.targets)
