use Rattle.tree_grammar.proofs.Parts.{some_arm}
use Rattle.tree_grammar.proofs.statement.has_arm.Goals as goal

pub returns-in-len1-up : goal.returns-in-len1-up
returns-in-len1-up c = some_arm c.args.arms.now c.in-len1-up.len_at_least
