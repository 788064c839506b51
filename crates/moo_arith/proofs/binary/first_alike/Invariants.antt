use Rattle.std.proofs.Common.{◌≡◌}
use Rattle.spec_value.specs.Datum.{of_list}
use Rattle.spec_value.specs.Operators.{alike, first_place}
use Rattle.moo_arith.proofs.Finding.{further}
use Rattle.moo_arith.proofs.binary.first_alike.Given as goal

abbrev pub invariant-loop-i : goal.invariant-loop-i
invariant-loop-i l = further (alike l.value) l.items l.i ≡ first_place (alike l.value) (of_list l.items)
