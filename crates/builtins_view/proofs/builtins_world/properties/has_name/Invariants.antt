use Rattle.std.proofs.Common.{◌≡◌, drop, map}
use Rattle.spec_value.specs.Datum.{fold_case}
use Rattle.spec_world.specs.WellFormed.{has_name}
use Rattle.builtins_view.proofs.builtins_world.properties.has_name.Given as goal

abbrev pub invariant-loop-other : goal.invariant-loop-other
invariant-loop-other l = has_name (map fold_case (drop l.other-index l.names)) (fold_case l.name) ≡ has_name (map fold_case l.names) (fold_case l.name)
