use Rattle.moo_code.proofs.Resuming.{fitting_counted, outers_only, outers_wait}
use Rattle.moo_code.proofs.machine.resuming.Goals as goal

pub returns-clause-waits : goal.returns-clause-waits
returns-clause-waits c = outers_wait

pub returns-clause-only : goal.returns-clause-only
returns-clause-only c = outers_only

pub returns-clause-counted : goal.returns-clause-counted
returns-clause-counted c = fitting_counted
