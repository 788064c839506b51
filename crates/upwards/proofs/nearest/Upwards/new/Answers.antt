use Rattle.upwards.proofs.Short.{right_at_first}
use Rattle.upwards.proofs.nearest.Upwards.new.Goals as goal

pub returns-clause-right : goal.returns-clause-right
returns-clause-right c = λ filled count each. right_at_first filled _ count each
