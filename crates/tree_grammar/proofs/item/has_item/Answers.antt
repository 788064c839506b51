use Rattle.tree_grammar.proofs.Parts.{some_item}
use Rattle.tree_grammar.proofs.item.has_item.Goals as goal

pub returns-in-len1-up : goal.returns-in-len1-up
returns-in-len1-up c = some_item c.args.items.now c.in-len1-up.len_at_least
