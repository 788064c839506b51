use Rattle.spec_spelling.proofs.ProgramsBack.{program_read_back}
use Rattle.spec_spelling.proofs.programs.read_back.Goals as goal

pub returns : goal.returns
returns c = program_read_back
