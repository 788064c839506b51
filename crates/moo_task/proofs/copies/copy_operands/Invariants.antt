use Rattle.std.proofs.Common.{◌≡◌, [], drop}
use Rattle.moo_code.specs.Performing.{onto}
use Rattle.moo_task.proofs.copies.copy_operands.Given as goal

abbrev pub invariant-loop-value : goal.invariant-loop-value
invariant-loop-value l = onto (drop l.value-index l.values) l.copy ≡ onto l.values []
