-- The tasks of a world, as lines that can be read.
use Rattle.std.specs.Prelude.{ℤ, Bool, ◌&&◌, List, ◌∷◌, ◌++◌, length, codes}
use Rattle.spec_value.specs.Datum.{Text}
use Rattle.spec_world.specs.World.{World, Task}
use Rattle.spec_world.specs.Checkpoint.{counted, each_task}
use Rattle.spec_checkpoint.specs.Holding.{numbered_task_holds}
use Rattle.task_lines.specs.Tasks.{task_nests}

-- in a well-formed world: its numbers and texts are those of values, its programs trees of the grammar, and no value nests too deep
abbrev pub is_task_read : ℤ × Task → Bool
is_task_read e = numbered_task_holds e && task_nests e.1

-- how many tasks there are, each of them, and the lines behind them
abbrev pub tasks_before : World → List Text → List Text
tasks_before w rest = counted (codes "tasks") (length w.tasks) ∷ (each_task w.tasks ++ rest)
