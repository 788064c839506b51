use Rattle.std.proofs.Common.{◌≡◌, map, take}
use Rattle.spec_value.specs.Datum.{fold_case}
use Rattle.world_checks.proofs.table_checks.merge.folded.Given as goal

abbrev pub invariant-loop-name : goal.invariant-loop-name
invariant-loop-name l = map (λ n. n.items) l.all.items ≡ map fold_case (take l.name-index l.names)
