use Rattle.std.proofs.Common.{◌++◌, drop, map}
use Rattle.moo_program.specs.Names.{known}
use Rattle.moo_task.specs.Frames.{kept_of}
use Rattle.moo_task.specs.Variables.{variable_of}
use Rattle.moo_task.specs.Copying.{HasCopied}
use Rattle.moo_task.proofs.Copying.{keys}
use Rattle.moo_task.proofs.moo_forks.body.further_for.Given as goal

abbrev pub invariant-loop-name : goal.invariant-loop-name
invariant-loop-name l =
    HasCopied (known l.names) (kept_of l.variables.frame.now).variables (map variable_of l.copies.items) (drop l.name-index l.own ++ keys l.variables.frame.now.further)

abbrev pub invariant-loop-variable : goal.invariant-loop-variable
invariant-loop-variable l =
    HasCopied (known l.names) (kept_of l.variables.frame.now).variables (map variable_of l.copies.items) (keys (map variable_of (drop l.variable-index l.further)))
