use Rattle.spec_world.specs.Checkpoint.{task_lines}
use Rattle.checkpoint_text.proofs.Behind.{IsLeft}
use Rattle.checkpoint_text.proofs.compare.behind_each_task.Given as goal

abbrev pub invariant-loop-id : goal.invariant-loop-id
invariant-loop-id l = IsLeft task_lines l.draft.tasks l.ids l.id-index l.bytes l.left
