use Rattle.std.proofs.Common.{ap, ◌∙◌}
use Rattle.world_checks.specs.Merge.{how_many}
use Rattle.world_checks.proofs.Merged.{permuted}
use Rattle.world_checks.proofs.Ordered.{sorted_order}
use Rattle.world_checks.proofs.table_checks.merge.sorted.Goals as goal

pub returns-clause-order : goal.returns-clause-order
returns-clause-order c = sorted_order (λ n. n.items) c.sort_unstable.new.self.items c.sort_unstable.ensures.sorted

pub returns-clause-names : goal.returns-clause-names
returns-clause-names c t = permuted (λ n. n.items) c.in_ok-all.all.items c.sort_unstable.new.self.items t c.sort_unstable.ensures.permutation ∙ ap (how_many t) c.in_ok-all.ensures
