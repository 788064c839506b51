use Rattle.moo_tree.proofs.Sameness.{same_programs}
use Rattle.moo_tree.proofs.statement.Tree.same.Goals as goal

pub returns : goal.returns
returns c = rw (← c.statements.ensures, ← c.statements-2.ensures) (same_programs _ _ _ c.same_statements.ensures)
