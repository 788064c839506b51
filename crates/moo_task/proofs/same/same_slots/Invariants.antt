use Rattle.moo_task.specs.Sameness.{SlotsAgree}
use Rattle.moo_task.proofs.same.same_slots.Given as goal

abbrev pub invariant-loop-i : goal.invariant-loop-i
invariant-loop-i l = SlotsAgree l.i l.xs l.ys
