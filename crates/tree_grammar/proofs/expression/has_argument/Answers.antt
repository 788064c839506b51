use Rattle.tree_grammar.proofs.Parts.{some_argument}
use Rattle.tree_grammar.proofs.expression.has_argument.Goals as goal

pub returns-in-len1-up : goal.returns-in-len1-up
returns-in-len1-up c = some_argument c.args.arguments.now c.in-len1-up.len_at_least
