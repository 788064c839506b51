use Rattle.std.proofs.Common.{◌≡◌, drop, map}
use Rattle.spec_value.specs.Datum.{Text}
use Rattle.spec_value.specs.Table.{named}
use Rattle.moo_task.specs.Copying.{value_at}
use Rattle.moo_task.specs.Variables.{variable_of}
use Rattle.moo_task.proofs.moo_forks.lookup.Values.new.Given as goal

abbrev pub invariant-loop-i : goal.invariant-loop-i
invariant-loop-i l = (x : Text) → value_at l.values x ≡ named (map variable_of (drop l.i l.variables)) x
