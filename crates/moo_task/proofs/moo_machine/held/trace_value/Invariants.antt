use Rattle.std.proofs.Common.{◌≡◌, map, take}
use Rattle.spec_moo.specs.Leaving.{traced_value}
use Rattle.moo_task.proofs.moo_machine.held.trace_value.Given as goal

abbrev pub invariant-loop-verb : goal.invariant-loop-verb
invariant-loop-verb l = l.values.items ≡ map traced_value (take l.verb-index l.verbs)
