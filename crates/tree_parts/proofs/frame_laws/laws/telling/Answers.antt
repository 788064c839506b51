use Rattle.tree_parts.proofs.Told.{calls_told, forks_told}
use Rattle.tree_parts.proofs.frame_laws.laws.telling.Goals as goal

pub returns-clause-calls : goal.returns-clause-calls
returns-clause-calls c = calls_told

pub returns-clause-forks : goal.returns-clause-forks
returns-clause-forks c = forks_told
