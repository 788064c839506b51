use Rattle.tree_grammar.proofs.Lower.{free_word}
use Rattle.tree_grammar.proofs.name.is_free_word.Goals as goal

pub returns-then-is_lower_word : goal.returns-then-is_lower_word
returns-then-is_lower_word c = free_word c.args.text.now c.is_keyword.result c.if-is_lower_word.ensures c.is_keyword.ensures
