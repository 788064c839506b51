use Rattle.moo_code.proofs.Paths.{is_found, is_placed, calls_wait}
use Rattle.moo_code.proofs.machine.places.Goals as goal

pub returns-clause-found : goal.returns-clause-found
returns-clause-found c = is_found

pub returns-clause-placed : goal.returns-clause-placed
returns-clause-placed c = is_placed

pub returns-clause-waits : goal.returns-clause-waits
returns-clause-waits c = calls_wait
