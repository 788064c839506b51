-- What the fields of a place mean.
use Rattle.std.specs.Prelude.{◌+◌, ◌<◌, [], ◌∷◌}
use Rattle.std.specs.Arc.{arc_value}
use Rattle.world_table.specs.Branch.{Branch, reach, joined, IsRow}
use Rattle.world_table.specs.declared.place.Held.{Held}
use Rattle.world_table.specs.declared.place.Held.TheVariants.{Nothing, Record, Block}

abbrev pub branch_of : {V : Type 0} → Held V → Branch V
branch_of Nothing = record { height = 0; entries = [] }
branch_of (Record r) = record { height = 0; entries = (0, arc_value r) ∷ [] }
branch_of (Block below places) = record { height = below + 1; entries = joined (reach below) 0 ((arc_value places).items) }

-- a block has at most 32 places, each with a branch of the levels below it
abbrev pub IsSound : {V : Type 0} → Held V → Type 0
IsSound Nothing = Unit {0}
IsSound (Record r) = Unit {0}
IsSound (Block below places) = (below < 12) × IsRow below ((arc_value places).items)
