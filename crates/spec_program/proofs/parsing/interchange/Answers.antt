use Rattle.spec_program.proofs.Interchanged.{interchange}
use Rattle.spec_program.proofs.parsing.interchange.Goals as goal

pub returns : goal.returns
returns c = interchange
