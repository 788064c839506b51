use Rattle.spec_reader.proofs.StepHolds.{step_keeps}
use Rattle.spec_reader.proofs.laws.steps.Goals as goal

pub returns : goal.returns
returns c = step_keeps
