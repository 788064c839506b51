use Rattle.world.proofs.Adding.{adding_keeps}
use Rattle.world.proofs.keeping.additions.Goals as goal

pub returns : goal.returns
returns c = adding_keeps
