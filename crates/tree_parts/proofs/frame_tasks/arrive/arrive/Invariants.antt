use Rattle.std.proofs.Common.{◌≡◌, drop}
use Rattle.tree_parts.specs.Arriving.{arrives}
use Rattle.tree_parts.specs.Nodes.{construct_of}
use Rattle.tree_parts.proofs.frame_tasks.arrive.arrive.Given as goal

abbrev pub invariant-loop-number : goal.invariant-loop-number
invariant-loop-number l = arrives (construct_of l.node) (drop l.number-index l.path) l.left ≡ arrives (construct_of l.fn.node) l.path l.fn.count
