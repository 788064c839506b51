use Rattle.spec_spelling.proofs.ExpressionsBack.{expression_read_back, arguments_read_back, codes_read_back}
use Rattle.spec_spelling.proofs.expressions.read_back.Goals as goal

pub returns : goal.returns
returns c = record { expressions = expression_read_back; arguments = arguments_read_back; codes = codes_read_back }
