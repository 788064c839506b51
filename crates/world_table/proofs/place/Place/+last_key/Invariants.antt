use Rattle.std.proofs.Common.{◌≡◌, ◌≤◌, length, take}
use Rattle.world_table.specs.Branch.{reach, joined}
use Rattle.world_table.specs.Entries.{last_key}
use Rattle.world_table.proofs.place.Place.+last_key.Given as goal

abbrev pub invariant-loop-at : goal.invariant-loop-at
invariant-loop-at g l = (l.at ≤ length l.places.value.items) × (last_key l.self.entries ≡ last_key (joined (reach l.below) 0 (take l.at l.places.value.items)))

abbrev pub decreases-loop-at : goal.decreases-loop-at
decreases-loop-at g l = l.at
