use Rattle.std.proofs.Common.{◌≡◌, []}
use Rattle.moo_code.specs.Performing.{onto}
use Rattle.task_lines.proofs.held.operands.Given as goal

abbrev pub invariant-loop-value : goal.invariant-loop-value
invariant-loop-value l = l.operands ≡ onto l.yielded []
