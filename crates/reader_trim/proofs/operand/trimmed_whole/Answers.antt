use Rattle.reader_trim.proofs.Few.{few_whole}
use Rattle.reader_trim.proofs.operand.trimmed_whole.Goals as goal

pub returns : goal.returns
returns c = few_whole c.args.whole c.in_ok-few.few c.in_ok-tree.tree c.in_ok-braces.braces c.in_ok-few.ensures c.in_ok-tree.ensures c.in_ok-braces.ensures
