-- Parts, tests, lists of steps.
use Rattle.spec_values_kept.proofs.WholeWorlds.{holds_values, is_of_values, stays_of_values}
use Rattle.spec_values_kept.proofs.worlds.whole.Goals as goal

pub returns-clause-parts : goal.returns-clause-parts
returns-clause-parts c = holds_values

pub returns-clause-tests : goal.returns-clause-tests
returns-clause-tests c = is_of_values

pub returns-clause-stays : goal.returns-clause-stays
returns-clause-stays c = stays_of_values
