use Rattle.spec_rights.proofs.Acting.{turns_act}
use Rattle.spec_rights.proofs.CoursesAct.{segments_act}
use Rattle.spec_rights.proofs.StepsAct.{steps_act}
use Rattle.spec_rights.proofs.laws.acting.Goals as goal

pub returns-clause-turns : goal.returns-clause-turns
returns-clause-turns c = turns_act

pub returns-clause-steps : goal.returns-clause-steps
returns-clause-steps c = steps_act

pub returns-clause-segments : goal.returns-clause-segments
returns-clause-segments c = segments_act
