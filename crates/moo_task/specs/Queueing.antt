-- Ids of the tasks that a step queues, and these tasks in the world.
use Rattle.std.specs.Prelude.{◌≡◌, ℤ, Option, Some, None, true, false}
use Rattle.spec_value.specs.Table.{with}
use Rattle.spec_world.specs.World.{World, Task}
use Rattle.spec_moo.specs.Scene.{Scene, has_ids, next_id}

-- the next one, or none where a step has no more
abbrev pub IsNextId : Option ℤ → Scene → Type 0
IsNextId None s = has_ids s ≡ false
IsNextId (Some i) s = (has_ids s ≡ true) × (i ≡ next_id s)

abbrev pub with_task : World → ℤ → Task → World
with_task w i t = record w { tasks = with w.tasks i t }
