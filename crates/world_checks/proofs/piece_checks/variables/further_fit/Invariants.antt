use Rattle.std.proofs.Common.{◌≡◌, map, drop}
use Rattle.std.specs.List.{list_all}
use Rattle.moo_task.specs.Frames.{kept_of}
use Rattle.moo_task.specs.Variables.{variable_of}
use Rattle.world_checks.specs.Naming.{name_fits}
use Rattle.world_checks.proofs.piece_checks.variables.further_fit.Given as goal

abbrev pub invariant-loop-variable : goal.invariant-loop-variable
invariant-loop-variable l =
    list_all (λ e. name_fits (kept_of l.frame).variables e.0) (map variable_of l.variables)
    ≡ list_all (λ e. name_fits (kept_of l.frame).variables e.0) (map variable_of (drop l.variable-index l.variables))
