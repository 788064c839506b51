use Rattle.moo_places.proofs.Outlined.{is_reached}
use Rattle.moo_places.proofs.Reached.{path_is_reached}
use Rattle.moo_places.proofs.laws.reaching.Goals as goal

pub returns-clause-outline : goal.returns-clause-outline
returns-clause-outline c = is_reached

pub returns-clause-path : goal.returns-clause-path
returns-clause-path c = path_is_reached
