use Rattle.moo_places.proofs.Sought.{is_found}
use Rattle.moo_places.proofs.laws.seeking.Goals as goal

pub returns : goal.returns
returns c = is_found
