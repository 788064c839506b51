use Rattle.moo_token.proofs.Loop.{total, only}
use Rattle.moo_token.proofs.tokens.one_cutting.Goals as goal

pub returns-clause-total : goal.returns-clause-total
returns-clause-total c = total

pub returns-clause-one_list : goal.returns-clause-one_list
returns-clause-one_list c = λ text ps qs e f h k. (only text ps qs e f h k).0

pub returns-clause-one_ending : goal.returns-clause-one_ending
returns-clause-one_ending c = λ text ps qs e f h k. (only text ps qs e f h k).1
