use Rattle.std.proofs.Common.{◌≡◌, drop}
use Rattle.std.specs.Int.{int_min}
use Rattle.spec_value.specs.PureBuiltins.{chosen, best}
use Rattle.builtins_value.proofs.numbers.min.Given as goal

abbrev pub invariant-loop-value : goal.invariant-loop-value
invariant-loop-value l = chosen int_min l.best (drop l.value-index l.rest) ≡ best int_min l.arguments
