use Rattle.std.proofs.Common.{◌≡◌, length}
use Rattle.spec_value.specs.PureBuiltins.{without_spaces}
use Rattle.builtins_value.proofs.numbers.without_spaces.Given as goal

abbrev pub invariant-spaces : goal.invariant-spaces
invariant-spaces l = without_spaces l.rest ≡ without_spaces l.bytes

abbrev pub decreases-spaces : goal.decreases-spaces
decreases-spaces l = length l.rest
