-- A text is what its lines make.
use Rattle.spec_faults.proofs.LinesBack.{lines_spelled}
use Rattle.spec_faults.proofs.fields.cuts.Goals as goal

pub returns-clause-lines : goal.returns-clause-lines
returns-clause-lines c = lines_spelled
