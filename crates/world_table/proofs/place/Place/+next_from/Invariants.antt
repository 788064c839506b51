use Rattle.std.proofs.Common.{◌≡◌, ◌*◌, ◌^◌, drop}
use Rattle.world_table.specs.Branch.{joined}
use Rattle.world_table.specs.Entries.{first_from}
use Rattle.world_table.proofs.place.Place.+next_from.Given as goal

abbrev pub invariant-loop-at : goal.invariant-loop-at
invariant-loop-at g l = first_from l.key l.self.entries ≡ first_from l.key (joined (2 ^ l.shift) (l.at * 2 ^ l.shift) (drop l.at l.places.value.items))
