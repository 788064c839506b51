use Rattle.std.proofs.Common.{refl}
use Rattle.moo_tree.specs.StatementView.{branches_of}
use Rattle.reader_trim.proofs.Few.{few_nodes, few_reversed}
use Rattle.reader_trim.proofs.block.trimmed_branches.Goals as goal

pub returns : goal.returns
returns c =
    record {
      branches = few_reversed branches_of _ _ _ _ c.in_ok-few.ensures c.shallow_list-reversed.ensures;
      otherwise = few_nodes _ _ _ _ c.in_ok-few.ensures c.shallow_otherwise-otherwise.ensures;
      strays = refl;
    }
