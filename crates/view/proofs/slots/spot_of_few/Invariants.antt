use Rattle.std.proofs.Common.{◌≡◌, ◌++◌, take, drop}
use Rattle.spec_value.specs.Datum.{fold_case}
use Rattle.spec_world.specs.World.{Slot}
use Rattle.spec_value.specs.Table.{with_name}
use Rattle.view.proofs.slots.spot_of_few.Given as goal

abbrev pub invariant-loop-index : goal.invariant-loop-index
invariant-loop-index l = (s : Slot) → with_name l.entries (fold_case l.name) s ≡ take l.index l.entries ++ with_name (drop l.index l.entries) (fold_case l.name) s
