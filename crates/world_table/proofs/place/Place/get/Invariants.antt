use Rattle.std.proofs.Common.{◌≡◌, ◌%◌}
use Rattle.std.specs.Ordering.{nat_cmp}
use Rattle.std.specs.FinMap.{find}
use Rattle.world_table.specs.Branch.{reach}
use Rattle.world_table.proofs.place.Place.get.Given as goal

abbrev pub invariant-loop-place : goal.invariant-loop-place
invariant-loop-place g l = find nat_cmp (l.key % reach l.place.height) l.place.entries ≡ find nat_cmp (l.key % reach l.self.height) l.self.entries
