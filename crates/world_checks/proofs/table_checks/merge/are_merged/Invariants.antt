use Rattle.std.proofs.Common.{map}
use Rattle.world_checks.proofs.Merged.{Merged}
use Rattle.world_checks.proofs.table_checks.merge.are_merged.Given as goal

abbrev pub invariant-loop-entry : goal.invariant-loop-entry
invariant-loop-entry g l = Merged (map (λ n. n.items) l.names) (map (λ e. e.0) l.others) (map (λ e. e.0) l.entries) l.name l.other l.entry-index
