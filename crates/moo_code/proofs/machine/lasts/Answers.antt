use Rattle.moo_code.proofs.Lasting.{runs_last, steps_fall, turns_suffice}
use Rattle.moo_code.proofs.machine.lasts.Goals as goal

pub returns-clause-turns : goal.returns-clause-turns
returns-clause-turns c = turns_suffice

pub returns-clause-over : goal.returns-clause-over
returns-clause-over c = runs_last

pub returns-clause-falls : goal.returns-clause-falls
returns-clause-falls c = steps_fall
