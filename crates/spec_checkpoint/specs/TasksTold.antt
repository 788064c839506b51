-- The tasks of a well-formed world are read in one way from their lines.
use Rattle.std.specs.Prelude.{◌≡◌, IsTrue}
use Rattle.std.specs.List.{list_all}
use Rattle.spec_world.specs.World.{World}
use Rattle.spec_world.specs.WellFormed.{IsWellFormed}
use Rattle.spec_world.specs.Checkpoint.{each_task}
use Rattle.spec_checkpoint.specs.Holding.{numbered_task_holds}

-- of the constructs under way the text has the numbers of their parts alone: they are those on the path of the program
abbrev pub TasksReadOnce : Type 0
TasksReadOnce =
    (v w : World) → IsWellFormed v → IsWellFormed w → IsTrue (list_all numbered_task_holds v.tasks) → IsTrue (list_all numbered_task_holds w.tasks)
    → each_task v.tasks ≡ each_task w.tasks → v.tasks ≡ w.tasks
