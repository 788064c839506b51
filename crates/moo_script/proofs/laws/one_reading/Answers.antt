use Rattle.moo_script.proofs.OneReading.{one_list, no_script_fault, one_script_fault}
use Rattle.moo_script.proofs.laws.one_reading.Goals as goal

pub returns : goal.returns
returns c = record { one_list = one_list; no_fault = no_script_fault; one_fault = one_script_fault }
