use Rattle.moo_tree.specs.ExpressionView.{arguments_of}
use Rattle.reader_trim.proofs.Few.{few_reversed}
use Rattle.reader_trim.proofs.expression.trimmed_arguments.Goals as goal

pub returns : goal.returns
returns c = record { parts = few_reversed arguments_of _ _ _ _ c.in_ok-few.ensures c.shallow_list-reversed.ensures }
