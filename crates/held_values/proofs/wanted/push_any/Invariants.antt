use Rattle.std.proofs.Common.{◌≡◌, ◌++◌, map, replicate}
use Rattle.spec_program.specs.Place.{any_value}
use Rattle.held_values.specs.Wanted.{of_kind}
use Rattle.held_values.proofs.wanted.push_any.Given as goal

abbrev pub invariant-loop-value : goal.invariant-loop-value
invariant-loop-value l = l.wanted.items ≡ l.fn.wanted.items ++ map of_kind (replicate l._value any_value)
