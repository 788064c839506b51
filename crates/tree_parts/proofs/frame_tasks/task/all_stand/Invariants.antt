use Rattle.std.proofs.Common.{take}
use Rattle.moo_task.specs.Frames.{outers_of}
use Rattle.tree_parts.specs.Standing.{AllStand}
use Rattle.tree_parts.proofs.frame_tasks.task.all_stand.Given as goal

abbrev pub invariant-loop-outer : goal.invariant-loop-outer
invariant-loop-outer l = AllStand (outers_of (take l.outer-index l.outers))
