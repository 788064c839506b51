use Rattle.moo_code.proofs.Rebuilding.{entries_rebuilt, frames_rebuilt, pieces_come_back}
use Rattle.moo_code.proofs.machine.rebuilding.Goals as goal

pub returns-clause-pieces : goal.returns-clause-pieces
returns-clause-pieces c = pieces_come_back

pub returns-clause-frames : goal.returns-clause-frames
returns-clause-frames c = frames_rebuilt

pub returns-clause-entries : goal.returns-clause-entries
returns-clause-entries c = entries_rebuilt
