use Rattle.spec_program.proofs.KeptNodesTell.{kept_tells_depth, kept_under, kept_of_both, kept_few}
use Rattle.spec_program.proofs.parsing.kept_nodes.Goals as goal

pub returns : goal.returns
returns c = record { depth = kept_tells_depth; around = kept_under; behind = kept_of_both; few = kept_few }
