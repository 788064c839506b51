use Rattle.spec_spelling.proofs.ProgramsCut.{expressions_cut, all_arguments_cut, all_codes_cut}
use Rattle.spec_spelling.proofs.expressions.cut.Goals as goal

pub returns : goal.returns
returns c = record { expressions = expressions_cut; arguments = all_arguments_cut; codes = all_codes_cut }
