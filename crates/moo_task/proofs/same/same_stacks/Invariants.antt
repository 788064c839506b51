use Rattle.std.proofs.Common.{◌≡◌, map, take}
use Rattle.moo_task.specs.Frames.{outer_of}
use Rattle.moo_task.proofs.same.same_stacks.Given as goal

abbrev pub invariant-loop-i : goal.invariant-loop-i
invariant-loop-i l = map outer_of (take l.i l.xs) ≡ map outer_of (take l.i l.ys)
