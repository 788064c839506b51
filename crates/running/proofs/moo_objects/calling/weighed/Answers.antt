use Rattle.running.proofs.Entering.{weighs, weighed_list}
use Rattle.running.proofs.moo_objects.calling.weighed.Goals as goal

pub returns-in-List-clause-weighs : goal.returns-in-List-clause-weighs
returns-in-List-clause-weighs c = weighs _ _ _ c.in-List.ensures c.limited.ensures

pub returns-in-List-clause-listed : goal.returns-in-List-clause-listed
returns-in-List-clause-listed c = weighed_list _ _ _ c.in-List.ensures c.limited.ensures
