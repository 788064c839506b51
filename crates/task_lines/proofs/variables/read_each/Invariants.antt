use Rattle.std.proofs.Common.{◌≡◌, ◌++◌, List, length, drop, map, IsTrue}
use Rattle.std.specs.List.{list_all}
use Rattle.spec_value.specs.Datum.{Datum, Text}
use Rattle.spec_value.specs.Table.{Named, is_named}
use Rattle.spec_world.specs.Checkpoint.{variable_lines}
use Rattle.moo_program.specs.Names.{known}
use Rattle.moo_task.specs.Variables.{variable_of}
use Rattle.checkpoint_lines.specs.Rows.{Left}
use Rattle.task_lines.specs.Gathering.{Gathers}
use Rattle.task_lines.specs.Tasks.{variable_reads}
use Rattle.spec_faults.specs.Awaited.{each_variable}
use Rattle.checkpoint_lines.proofs.Going.{Counts}
use Rattle.task_lines.proofs.variables.read_each.Given as goal

abbrev pub invariant-variables : goal.invariant-variables
invariant-variables l =
    (length l.slots.items ≡ length (known l.names))
    × ((es : Named Datum) (rest : List Text) → IsTrue (is_named es) → IsTrue (list_all variable_reads es) → l.fn.count ≡ length es → Left l.fn.lines (variable_lines es ++ rest)
    → Gathers (known l.names) l.fn.slots.items (map variable_of l.fn.further.items) es es
    → Left l.lines (variable_lines (drop l._variable es) ++ rest) × Gathers (known l.names) l.slots.items (map variable_of l.further.items) (drop l._variable es) es)
    × Counts l.fn.lines l.lines l.fn.count l._variable each_variable
