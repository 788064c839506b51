use Rattle.std.proofs.Common.{IsTrue, take}
use Rattle.spec_value.specs.Datum.{of_list, are_values}
use Rattle.moo_value.proofs.items.know_all.Given as goal

abbrev pub invariant-loop-item : goal.invariant-loop-item
invariant-loop-item l = IsTrue (are_values (of_list (take l.item-index l.items)))
