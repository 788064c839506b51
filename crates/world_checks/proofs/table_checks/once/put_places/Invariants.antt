use Rattle.std.proofs.Common.{◌≡◌, ℤ, false, IsTrue}
use Rattle.std.specs.List.{list_all}
use Rattle.spec_world.specs.WellFormed.{lists, once}
use Rattle.world_checks.specs.Marks.{mark_of, may_mark}
use Rattle.world_checks.proofs.Placed.{PlacedTo}
use Rattle.world_checks.proofs.table_checks.once.put_places.Given as goal

abbrev pub invariant-loop-index : goal.invariant-loop-index
invariant-loop-index l =
    (IsTrue (once l.list) → IsTrue (list_all may_mark l.list) → PlacedTo l.marks l.list l.index)
    × ((n : ℤ) → lists l.list n ≡ false → mark_of l.marks n ≡ mark_of l.fn.marks n)
