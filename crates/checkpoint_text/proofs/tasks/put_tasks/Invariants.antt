use Rattle.std.proofs.Common.{◌≡◌, ◌++◌, drop}
use Rattle.spec_world.specs.Checkpoint.{task_lines, with_line_ends}
use Rattle.checkpoint_text.specs.Each.{of_each}
use Rattle.checkpoint_text.proofs.tasks.put_tasks.Given as goal

abbrev pub invariant-loop-id : goal.invariant-loop-id
invariant-loop-id l =
    l.page ++ with_line_ends (of_each task_lines l.draft.tasks (drop l.id-index l.ids)) ≡ l.fn.page ++ with_line_ends (of_each task_lines l.draft.tasks l.ids)
