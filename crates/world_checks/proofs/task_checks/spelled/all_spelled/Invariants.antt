use Rattle.std.proofs.Common.{take}
use Rattle.moo_task.specs.Frames.{outers_of}
use Rattle.world_checks.specs.Waiting.{AllSpelled}
use Rattle.world_checks.proofs.task_checks.spelled.all_spelled.Given as goal

abbrev pub invariant-loop-outer : goal.invariant-loop-outer
invariant-loop-outer l = AllSpelled (outers_of (take l.outer-index l.outers))
