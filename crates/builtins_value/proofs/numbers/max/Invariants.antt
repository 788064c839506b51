use Rattle.std.proofs.Common.{◌≡◌, drop}
use Rattle.std.specs.Int.{int_max}
use Rattle.spec_value.specs.PureBuiltins.{chosen, best}
use Rattle.builtins_value.proofs.numbers.max.Given as goal

abbrev pub invariant-loop-value : goal.invariant-loop-value
invariant-loop-value l = chosen int_max l.best (drop l.value-index l.rest) ≡ best int_max l.arguments
