use Rattle.moo_script.proofs.Scripts.{first_end}
use Rattle.moo_script.proofs.script.read_first.Goals as goal

pub returns-in-Some-read_key_line-clause-fault : goal.returns-in-Some-read_key_line-clause-fault
returns-in-Some-read_key_line-clause-fault c = first_end _ _ c.in-Some-read_key_line.ensures
