use Rattle.spec_rights.proofs.Steps.{turns_permit, segments_permit}
use Rattle.spec_rights.proofs.laws.tasks.Goals as goal

pub returns-clause-turns : goal.returns-clause-turns
returns-clause-turns c = turns_permit

pub returns-clause-segments : goal.returns-clause-segments
returns-clause-segments c = segments_permit
