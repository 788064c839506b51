use Rattle.spec_rights.proofs.Wizards.{turns_leave_standing}
use Rattle.spec_rights.proofs.Strangers.{turns_leave_alone}
use Rattle.spec_rights.proofs.Outsiders.{turns_leave_slots}
use Rattle.spec_rights.proofs.laws.turns.Goals as goal

pub returns-clause-standing : goal.returns-clause-standing
returns-clause-standing c = turns_leave_standing

pub returns-clause-alone : goal.returns-clause-alone
returns-clause-alone c = turns_leave_alone

pub returns-clause-slots : goal.returns-clause-slots
returns-clause-slots c = turns_leave_slots
