use Rattle.spec_rights.proofs.Steps.{steps_permit, lists_permit}
use Rattle.spec_rights.proofs.laws.steps.Goals as goal

pub returns-clause-steps : goal.returns-clause-steps
returns-clause-steps c = steps_permit

pub returns-clause-lists : goal.returns-clause-lists
returns-clause-lists c = lists_permit
