use Rattle.moo_reader.specs.Views.{found_of}
use Rattle.moo_reader.proofs.Depth.{similar_kept}
use Rattle.moo_reader.proofs.trim.few_of.Goals as goal

pub returns : goal.returns
returns c =
    similar_kept (record { tree = c.args.tree; line = c.args.line; nodes = c.args.nodes.now }) (found_of c.in_ok-found.found) c.in_ok-few.few
    c.shallow-tree.result c.in_ok-found.ensures c.in_ok-few.ensures c.shallow-tree.ensures
