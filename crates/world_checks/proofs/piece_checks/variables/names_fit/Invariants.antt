use Rattle.std.proofs.Common.{◌≡◌, drop}
use Rattle.std.specs.List.{list_all}
use Rattle.moo_task.specs.Frames.{kept_of}
use Rattle.world_checks.specs.Naming.{name_fits}
use Rattle.world_checks.proofs.piece_checks.variables.names_fit.Given as goal

abbrev pub invariant-loop-name : goal.invariant-loop-name
invariant-loop-name l = list_all (name_fits (kept_of l.frame).variables) l.names ≡ list_all (name_fits (kept_of l.frame).variables) (drop l.name-index l.names)
