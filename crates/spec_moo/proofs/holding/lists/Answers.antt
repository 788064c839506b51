-- Lists, calls of functions, operators and indexes.
use Rattle.spec_moo.proofs.ListsHold.{lists_hold, calls_hold, operands_hold}
use Rattle.spec_moo.proofs.holding.lists.Goals as goal

pub returns-clause-lists : goal.returns-clause-lists
returns-clause-lists c = lists_hold

pub returns-clause-calls : goal.returns-clause-calls
returns-clause-calls c = calls_hold

pub returns-clause-operands : goal.returns-clause-operands
returns-clause-operands c = operands_hold
