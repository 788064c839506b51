use Rattle.moo_code.proofs.Bounds.{begun_ends, resumed_ends}
use Rattle.moo_code.proofs.machine.bounds.Goals as goal

pub returns-clause-begun : goal.returns-clause-begun
returns-clause-begun c = begun_ends

pub returns-clause-resumed : goal.returns-clause-resumed
returns-clause-resumed c = resumed_ends
