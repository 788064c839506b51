use Rattle.std.proofs.Common.{◌≡◌, ◌+◌, ◌≤◌, drop, map}
use Rattle.spec_value.specs.Scatter.{required_count}
use Rattle.moo_arith.specs.Targets.{kind_of}
use Rattle.moo_arith.proofs.scatter.required_count.Given as goal

abbrev pub invariant-loop-target : goal.invariant-loop-target
invariant-loop-target l = (l.count ≤ l.target-index) × (l.count + required_count (map kind_of (drop l.target-index l.targets)) ≡ required_count (map kind_of l.targets))
