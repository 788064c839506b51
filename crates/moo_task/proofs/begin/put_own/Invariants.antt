use Rattle.std.proofs.Common.{◌≡◌, ◌++◌, None}
use Rattle.std.specs.Prelude.{replicate}
use Rattle.moo_task.proofs.begin.put_own.Given as goal

abbrev pub invariant-own : goal.invariant-own
invariant-own l = l.slots.items ≡ l.fn.slots.items ++ replicate l._name None
