use Rattle.std.proofs.Common.{◌≡◌, take}
use Rattle.moo_task.proofs.copies.copy_slots.Given as goal

abbrev pub invariant-loop-slot : goal.invariant-loop-slot
invariant-loop-slot l = l.copy.items ≡ take l.slot-index l.slots
