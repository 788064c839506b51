use Rattle.std.proofs.Common.{◌≡◌}
use Rattle.moo_task.specs.Frames.{outers_of}
use Rattle.tree_parts.proofs.frame_tasks.task.outers_from.Given as goal

abbrev pub invariant-loop-outer : goal.invariant-loop-outer
invariant-loop-outer l = l.outers ≡ outers_of l.yielded
