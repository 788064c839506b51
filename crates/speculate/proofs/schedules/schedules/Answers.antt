use Rattle.speculate.proofs.Stays.{stays}
use Rattle.speculate.proofs.schedules.schedules.Goals as goal

pub returns : goal.returns
returns c = stays
