use Rattle.std.proofs.Common.{◌≡◌, drop}
use Rattle.spec_program.specs.Trees.{takes_rest}
use Rattle.moo_tree.specs.ExpressionView.{items_of}
use Rattle.tree_grammar.proofs.item.takes_rest.Given as goal

abbrev pub invariant-loop-item : goal.invariant-loop-item
invariant-loop-item l = takes_rest (items_of l.items) ≡ takes_rest (items_of (drop l.item-index l.items))
