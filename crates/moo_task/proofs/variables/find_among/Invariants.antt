use Rattle.std.proofs.Common.{◌≡◌, drop, map}
use Rattle.spec_value.specs.Table.{named}
use Rattle.moo_task.specs.Variables.{variable_of}
use Rattle.moo_task.proofs.variables.find_among.Given as goal

abbrev pub invariant-loop-variable : goal.invariant-loop-variable
invariant-loop-variable l =
    named (map variable_of (drop l.variable-index l.variables)) l.name ≡ named (map variable_of l.variables) l.name
