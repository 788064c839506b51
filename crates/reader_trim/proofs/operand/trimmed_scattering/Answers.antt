use Rattle.moo_tree.specs.ExpressionView.{items_of}
use Rattle.reader_trim.proofs.Few.{few_items}
use Rattle.reader_trim.proofs.operand.trimmed_scattering.Goals as goal

pub returns : goal.returns
returns c = few_items items_of _ _ _ _ c.in_ok-few.ensures c.shallow_list-items.ensures
