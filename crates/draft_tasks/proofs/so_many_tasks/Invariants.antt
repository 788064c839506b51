use Rattle.std.proofs.Common.{◌≡◌, ◌++◌, List, [], length, take, drop, IsTrue}
use Rattle.std.specs.List.{list_all}
use Rattle.spec_value.specs.Datum.{Text}
use Rattle.spec_world.specs.World.{World}
use Rattle.spec_world.specs.WellFormed.{IsWellFormed}
use Rattle.spec_world.specs.Checkpoint.{each_task}
use Rattle.checkpoint_lines.specs.Rows.{Left}
use Rattle.spec_faults.specs.Awaited.{each_task as each_task_of}
use Rattle.checkpoint_lines.proofs.Going.{Counts}
use Rattle.task_lines.specs.Readable.{is_task_read}
use Rattle.draft_tasks.proofs.so_many_tasks.Given as goal

abbrev pub invariant-reading : goal.invariant-reading
invariant-reading l =
    ((w : World) (rest : List Text) → IsWellFormed w → IsTrue (list_all is_task_read w.tasks) → l.fn.draft.tasks ≡ [] → l.fn.count ≡ length w.tasks → Left l.fn.lines (each_task w.tasks ++ rest)
    → Left l.lines (each_task (drop l._task w.tasks) ++ rest) × IsTrue l.all × (l.draft ≡ record l.fn.draft { tasks = take l._task w.tasks }))
    × Counts l.fn.lines l.lines l.fn.count l._task each_task_of
