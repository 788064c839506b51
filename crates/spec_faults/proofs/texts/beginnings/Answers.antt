-- What begins the text of a world ends too early.
use Rattle.spec_faults.proofs.Staying.{beginnings_end}
use Rattle.spec_faults.proofs.texts.beginnings.Goals as goal

pub returns : goal.returns
returns c = beginnings_end
