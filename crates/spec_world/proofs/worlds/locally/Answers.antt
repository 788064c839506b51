use Rattle.spec_world.proofs.Locally.{ranks_tell, parents_tell}
use Rattle.spec_world.proofs.worlds.locally.Goals as goal

pub returns-clause-ranks : goal.returns-clause-ranks
returns-clause-ranks c = ranks_tell

pub returns-clause-parents : goal.returns-clause-parents
returns-clause-parents c = parents_tell
