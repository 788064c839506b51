use Rattle.std.proofs.Common.{◌≡◌, take}
use Rattle.moo_task.specs.Frames.{outers_of}
use Rattle.moo_task.proofs.copies.copy_outers.Given as goal

abbrev pub invariant-loop-outer : goal.invariant-loop-outer
invariant-loop-outer l = l.copy ≡ outers_of (take l.outer-index l.stack)
