use Rattle.spec_rights.proofs.Outsiders.{outsiders_leave_slots}
use Rattle.spec_rights.proofs.Wizards.{no_wizards_arise}
use Rattle.spec_rights.proofs.Strangers.{strangers_leave_alone}
use Rattle.spec_rights.proofs.laws.strangers.Goals as goal

pub returns-clause-wizards : goal.returns-clause-wizards
returns-clause-wizards c = no_wizards_arise

pub returns-clause-alone : goal.returns-clause-alone
returns-clause-alone c = strangers_leave_alone

pub returns-clause-slots : goal.returns-clause-slots
returns-clause-slots c = outsiders_leave_slots
