use Rattle.std.proofs.Common.{refl}
use Rattle.moo_tree.specs.ExpressionView.{items_of}
use Rattle.reader_trim.proofs.Few.{few_reversed}
use Rattle.reader_trim.proofs.expression.trimmed_items.Goals as goal

pub returns : goal.returns
returns c =
    record {
      allowed = refl;
      arguments = c.in_ok-arguments.ensures.parts;
      items = few_reversed items_of _ _ _ _ c.in_ok-few.ensures c.shallow_list-reversed.ensures;
    }
