use Rattle.moo_code.proofs.Operands.{list_begins, list_is_spliced, list_receives, operands_are_there, others_fail, value_stays}
use Rattle.moo_code.proofs.machine.operands.Goals as goal

pub returns-clause-listed : goal.returns-clause-listed
returns-clause-listed c = list_receives

pub returns-clause-spliced : goal.returns-clause-spliced
returns-clause-spliced c = list_is_spliced

pub returns-clause-others : goal.returns-clause-others
returns-clause-others c = others_fail

pub returns-clause-begins : goal.returns-clause-begins
returns-clause-begins c = list_begins

pub returns-clause-stays : goal.returns-clause-stays
returns-clause-stays c = value_stays

pub returns-clause-there : goal.returns-clause-there
returns-clause-there c = operands_are_there
