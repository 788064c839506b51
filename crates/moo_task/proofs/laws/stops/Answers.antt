use Rattle.moo_task.proofs.Stopped.{stops_are_kept}
use Rattle.moo_task.proofs.laws.stops.Goals as goal

pub returns : goal.returns
returns c = stops_are_kept
