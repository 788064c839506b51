use Rattle.std.proofs.Common.{◌≡◌, take, Some}
use Rattle.spec_value.specs.Datum.{of_list}
use Rattle.spec_moo.specs.Leaving.{read_trace}
use Rattle.moo_task.proofs.moo_machine.left.trace_in.Given as goal

abbrev pub invariant-loop-value : goal.invariant-loop-value
invariant-loop-value l = read_trace (of_list (take l.value-index l.values)) ≡ Some l.verbs.items
