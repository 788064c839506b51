use Rattle.std.proofs.Common.{refl}
use Rattle.moo_tree.specs.StatementView.{arms_of}
use Rattle.reader_trim.proofs.Few.{few_reversed}
use Rattle.reader_trim.proofs.block.trimmed_arms.Goals as goal

pub returns : goal.returns
returns c = record { parts = few_reversed arms_of _ _ _ _ c.in_ok-few.ensures c.shallow_list-reversed.ensures; strays = refl }
