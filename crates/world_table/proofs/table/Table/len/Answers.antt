use Rattle.world_table.proofs.Roots.{root_sorted, root_within}
use Rattle.world_table.proofs.table.Table.len.Goals as goal

pub returns-clause-sorted : goal.returns-clause-sorted
returns-clause-sorted g c = rw (← c.self.view_is) (root_sorted g.row.LEVELS _ c.self.invariant.1)

pub returns-clause-within : goal.returns-clause-within
returns-clause-within g c = rw (← c.self.view_is) (root_within g.row.LEVELS _ c.self.invariant.1)
