use Rattle.std.proofs.Common.{◌≡◌, ◌+◌, drop}
use Rattle.spec_value.specs.Datum.{Text}
use Rattle.moo_task.specs.Copying.{slot_from, slot_at}
use Rattle.moo_task.proofs.moo_forks.lookup.Slots.new.Given as goal

abbrev pub invariant-loop-i : goal.invariant-loop-i
invariant-loop-i l = (x : Text) → slot_at l.slots x ≡ slot_from (17 + l.i) (drop l.i l.own) x
