use Rattle.std.proofs.Common.{◌≡◌, drop}
use Rattle.spec_program.specs.Trees.{rest_once}
use Rattle.moo_tree.specs.ExpressionView.{items_of}
use Rattle.tree_grammar.proofs.item.rest_once.Given as goal

abbrev pub invariant-loop-index : goal.invariant-loop-index
invariant-loop-index l = rest_once (items_of l.items) ≡ rest_once (items_of (drop l.index l.items))
