use Rattle.spec_reader.proofs.StepWorks.{step_works}
use Rattle.spec_reader.proofs.laws.work.Goals as goal

pub returns : goal.returns
returns c = step_works
