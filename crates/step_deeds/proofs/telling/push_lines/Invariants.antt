use Rattle.std.proofs.Common.{◌≡◌, ◌++◌, map, length}
use Rattle.std.specs.Vec.Iter.{into_iter_items, into_iter_len}
use Rattle.spec_moo.specs.Steps.Running.{lines_to}
use Rattle.moo_task.specs.Deeds.{told_of}
use Rattle.step_deeds.proofs.telling.push_lines.Given as goal

abbrev pub invariant-loop-line : goal.invariant-loop-line
invariant-loop-line l =
    (l.yielded ++ into_iter_items l.line-iterator ≡ into_iter_items l.initial.line-iterator)
    × (into_iter_len l.line-iterator ≡ length (into_iter_items l.line-iterator))
    × (map told_of l.output.items ≡ map told_of l.initial.output.items ++ lines_to l.connection l.yielded)
