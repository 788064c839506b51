use Rattle.tree_parts.proofs.Arrived.{calls_stand}
use Rattle.tree_parts.proofs.frame_laws.laws.standing.Goals as goal

pub returns : goal.returns
returns c = calls_stand
