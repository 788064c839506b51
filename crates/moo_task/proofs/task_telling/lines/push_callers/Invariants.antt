use Rattle.std.proofs.Common.{◌≡◌, ◌++◌, drop}
use Rattle.spec_moo.specs.Telling.{called_from}
use Rattle.moo_task.proofs.task_telling.lines.push_callers.Given as goal

abbrev pub invariant-loop-verb : goal.invariant-loop-verb
invariant-loop-verb l = l.lines.items ++ called_from (drop l.verb-index l.verbs) ≡ l.fn.lines.items ++ called_from l.verbs
