use Rattle.std.proofs.Common.{◌≡◌}
use Rattle.spec_value.specs.Datum.{of_list, same}
use Rattle.spec_value.specs.Operators.{first_place}
use Rattle.moo_arith.proofs.Finding.{further}
use Rattle.builtins_value.proofs.lists.first_equal.Given as goal

abbrev pub invariant-loop-i : goal.invariant-loop-i
invariant-loop-i l = further (same l.value) l.items l.i ≡ first_place (same l.value) (of_list l.items)
