use Rattle.std.proofs.Common.{take}
use Rattle.moo_task.specs.Frames.{outers_of}
use Rattle.world_checks.specs.Waiting.{AllFit}
use Rattle.world_checks.proofs.task_checks.outers.all_fit.Given as goal

abbrev pub invariant-loop-outer : goal.invariant-loop-outer
invariant-loop-outer l = AllFit (outers_of (take l.outer-index l.outers))
