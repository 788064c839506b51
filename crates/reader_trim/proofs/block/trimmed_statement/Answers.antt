use Rattle.std.proofs.Common.{refl}
use Rattle.reader_trim.proofs.Few.{few_nodes}
use Rattle.reader_trim.proofs.block.trimmed_statement.Goals as goal

pub returns : goal.returns
returns c = record { parts = few_nodes _ _ _ _ c.in_ok-few.ensures c.shallow_statement-tree.ensures; strays = refl }
