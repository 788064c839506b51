use Rattle.tree_grammar.proofs.Parts.{some_branch}
use Rattle.tree_grammar.proofs.statement.has_branch.Goals as goal

pub returns-in-len1-up : goal.returns-in-len1-up
returns-in-len1-up c = some_branch c.args.branches.now c.in-len1-up.len_at_least
