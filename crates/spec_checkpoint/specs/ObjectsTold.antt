-- The objects of a well-formed world are read in one way from their lines.
use Rattle.std.specs.Prelude.{◌≡◌, IsTrue}
use Rattle.std.specs.List.{list_all}
use Rattle.spec_world.specs.World.{World}
use Rattle.spec_world.specs.WellFormed.{IsWellFormed}
use Rattle.spec_world.specs.Checkpoint.{each_object}
use Rattle.spec_checkpoint.specs.Holding.{numbered_object_holds}

-- of slots the text has no names: they are those of the properties along the line of parents
abbrev pub ObjectsReadOnce : Type 0
ObjectsReadOnce =
    (v w : World) → IsWellFormed v → IsWellFormed w → IsTrue (list_all numbered_object_holds v.objects) → IsTrue (list_all numbered_object_holds w.objects)
    → v.greatest ≡ w.greatest → each_object v v.objects ≡ each_object w w.objects → v.objects ≡ w.objects
