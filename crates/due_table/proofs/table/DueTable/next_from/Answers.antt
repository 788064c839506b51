use Rattle.std.proofs.Common.{Some}
use Rattle.due_table.proofs.Walks.{found_own, found_later, pair_within}
use Rattle.due_table.proofs.table.DueTable.next_from.Goals as goal

pub returns-in-Some-clause-value : goal.returns-in-Some-clause-value
returns-in-Some-clause-value c = rw (← c.self.view_is) (found_own c.args.moment c.args.key _ _ c.self.invariant c.in-Some.ensures)

pub returns-in-Some-clause-within : goal.returns-in-Some-clause-within
returns-in-Some-clause-within c = pair_within (c.args.moment, c.args.key) (Some (c.args.moment, c.in-Some.found)) _ c.self.invariant (found_own c.args.moment c.args.key _ _ c.self.invariant c.in-Some.ensures)

pub returns-in-None-clause-value : goal.returns-in-None-clause-value
returns-in-None-clause-value c = rw (← c.self.view_is) (found_later c.args.moment c.args.key _ _ c.self.invariant c.in-None.ensures c.first_after.ensures)

pub returns-in-None-clause-within : goal.returns-in-None-clause-within
returns-in-None-clause-within c = pair_within (c.args.moment, c.args.key) _ _ c.self.invariant (found_later c.args.moment c.args.key _ _ c.self.invariant c.in-None.ensures c.first_after.ensures)
