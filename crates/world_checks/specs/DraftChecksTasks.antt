-- What is looked at of the tasks of a world.
use Rattle.std.specs.Prelude.{◌≡◌, ℤ, Bool, true, List, [], ◌∷◌, Option, Some, None, is_some, IsTrue}
use Rattle.std.specs.Option.{option_and_then}
use Rattle.spec_value.specs.Table.{at, is_numbered}
use Rattle.spec_world.specs.World.{World, Task}
use Rattle.spec_world.specs.WellFormed.{OfEachTask, id_fits, entries_fit, wait_fits, TaskStands, once, links_read}
use Rattle.moo_task.specs.Waits.{read_on}

-- a connection, if there is one, has a link
abbrev pub link_there : World → Option ℤ → Bool
link_there w None = true
link_there w (Some c) = is_some (at w.links c)

pub record TaskFits (w : World) (i : ℤ) (t : Task) : Type 0 where
  pub id : IsTrue (id_fits w i t)
  pub entries : IsTrue (entries_fit w i t)
  pub wait : IsTrue (wait_fits w i t)
  pub places : TaskStands t t.waiting

-- if there is a task of that id
abbrev pub TaskFitsAt : World → ℤ → Type 0
TaskFitsAt w i = (t : Task) → at w.tasks i ≡ Some t → TaskFits w i t

-- ---- the connections on which tasks read, by their ids

abbrev pub read_at : World → ℤ → Option ℤ
read_at w i = option_and_then (λ t. read_on t.waiting) (at w.tasks i)

abbrev pub before : Option ℤ → List ℤ → List ℤ
before None cs = cs
before (Some c) cs = c ∷ cs

abbrev pub all_read : World → List ℤ → List ℤ
all_read w [] = []
all_read w (i ∷ is) = before (read_at w i) (all_read w is)

-- ---- all tasks

pub record TasksAreSound (w : World) : Type 0 where
  pub tasks_in_order : IsTrue (is_numbered w.tasks)
  pub task_ids : OfEachTask w id_fits
  pub task_entries : OfEachTask w entries_fit
  pub task_waits : OfEachTask w wait_fits
  pub task_places : (i : ℤ) (t : Task) → at w.tasks i ≡ Some t → TaskStands t t.waiting
  pub readers : IsTrue (once (links_read w.tasks))
