use Rattle.std.proofs.Common.{◌≡◌, drop}
use Rattle.spec_value.specs.Datum.{of_list}
use Rattle.spec_world.specs.WellFormed.{are_traced}
use Rattle.held_values.proofs.leaving.are_traced_items.Given as goal

abbrev pub invariant-loop-item : goal.invariant-loop-item
invariant-loop-item l = are_traced (of_list l.items) ≡ are_traced (of_list (drop l.item-index l.items))
