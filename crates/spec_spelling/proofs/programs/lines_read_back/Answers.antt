use Rattle.spec_spelling.proofs.ProgramsCut.{lines_read_back, each_spelled, spelled_anew, one_tree}
use Rattle.spec_spelling.proofs.programs.lines_read_back.Goals as goal

pub returns : goal.returns
returns c = record { read = lines_read_back; spelled = each_spelled; anew = spelled_anew; one_tree = one_tree }
