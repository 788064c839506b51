use Rattle.moo_script.proofs.OneAnswer.{one_command, no_fault, one_fault}
use Rattle.moo_script.proofs.laws.one_answer.Goals as goal

pub returns : goal.returns
returns c = record { one_command = one_command; no_fault = no_fault; one_fault = one_fault }
