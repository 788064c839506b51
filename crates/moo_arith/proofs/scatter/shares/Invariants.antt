use Rattle.std.proofs.Common.{◌≡◌, ◌++◌, drop, map}
use Rattle.spec_value.specs.Datum.{of_list}
use Rattle.spec_value.specs.Scatter.{shares}
use Rattle.moo_arith.specs.Targets.{kind_of}
use Rattle.moo_arith.proofs.scatter.shares.Given as goal

abbrev pub invariant-loop-target : goal.invariant-loop-target
invariant-loop-target l = l.shares.items ++ shares (map kind_of (drop l.target-index l.targets)) l.optional l.left (of_list l.rest) ≡ shares (map kind_of l.targets) l.filled l.left (of_list l.items)
