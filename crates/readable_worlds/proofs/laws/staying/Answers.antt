-- Any world.
use Rattle.readable_worlds.proofs.Staying.{stays_readable}
use Rattle.readable_worlds.proofs.laws.staying.Goals as goal

pub returns : goal.returns
returns c = stays_readable
