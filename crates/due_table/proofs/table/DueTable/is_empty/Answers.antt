use Rattle.std.proofs.Common.{◌∙◌}
use Rattle.due_table.proofs.Kept.{no_pairs, sorted_pairs, pairs_within}
use Rattle.due_table.proofs.table.DueTable.is_empty.Goals as goal

pub returns-clause-value : goal.returns-clause-value
returns-clause-value c = rw (← c.self.view_is) (c.is_empty.ensures ∙ no_pairs _ c.self.invariant)

pub returns-clause-sorted : goal.returns-clause-sorted
returns-clause-sorted c = rw (← c.self.view_is) (sorted_pairs _ c.self.invariant)

pub returns-clause-within : goal.returns-clause-within
returns-clause-within c = rw (← c.self.view_is) (pairs_within _ c.self.invariant)
