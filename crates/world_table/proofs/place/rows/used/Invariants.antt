use Rattle.std.proofs.Common.{◌≤◌, length, take}
use Rattle.world_table.specs.Branch.{IsAlike}
use Rattle.world_table.proofs.place.rows.used.Given as goal

abbrev pub invariant-loop-count : goal.invariant-loop-count
invariant-loop-count g l = (l.count ≤ length l.places) × IsAlike l.places (take l.count l.places)

abbrev pub decreases-loop-count : goal.decreases-loop-count
decreases-loop-count g l = l.count
