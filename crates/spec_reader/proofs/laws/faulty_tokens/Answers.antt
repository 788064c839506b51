use Rattle.spec_reader.proofs.StepWorks.{step_before_fault}
use Rattle.spec_reader.proofs.laws.faulty_tokens.Goals as goal

pub returns : goal.returns
returns c = step_before_fault
