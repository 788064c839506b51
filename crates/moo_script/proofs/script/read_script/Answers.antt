use Rattle.moo_script.proofs.Scripts.{script_fault}
use Rattle.moo_script.proofs.script.read_script.Goals as goal

pub returns-clause-fault : goal.returns-clause-fault
returns-clause-fault c = script_fault c.args.script.now _ _ c.read_body.result c.in-Ok.ensures.says c.read_body.ensures.fault
