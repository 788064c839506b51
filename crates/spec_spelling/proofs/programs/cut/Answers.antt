use Rattle.spec_spelling.proofs.ProgramsCut.{programs_cut}
use Rattle.spec_spelling.proofs.programs.cut.Goals as goal

pub returns : goal.returns
returns c = programs_cut
