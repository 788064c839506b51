use Rattle.spec_program.proofs.CanonicalBack.{simple_read_back}
use Rattle.spec_program.proofs.parsing.canonical_expressions.Goals as goal

pub returns : goal.returns
returns c = record { simple = simple_read_back }
