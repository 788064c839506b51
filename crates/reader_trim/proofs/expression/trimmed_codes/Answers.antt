use Rattle.reader_trim.proofs.Few.{few_nodes}
use Rattle.reader_trim.proofs.expression.trimmed_codes.Goals as goal

pub returns : goal.returns
returns c = record { parts = few_nodes _ _ _ _ c.in_ok-few.ensures c.shallow_codes-tree.ensures }
