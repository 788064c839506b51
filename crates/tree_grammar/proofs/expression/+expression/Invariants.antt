use Rattle.std.proofs.Common.{◌≡◌, ◌≤◌, ◌+◌, ◌*◌, drop}
use Rattle.spec_program.specs.Trees.{arguments_fit, items_fit, arguments_height, items_height}
use Rattle.moo_tree.specs.ExpressionView.{arguments_of, items_of}
use Rattle.tree_grammar.proofs.expression.+expression.Given as goal

abbrev pub decreases-expression_fits : goal.decreases-expression_fits
decreases-expression_fits l = 4 * l.room

abbrev pub decreases-arguments_fit : goal.decreases-arguments_fit
decreases-arguments_fit l = 4 * l.room + 2

abbrev pub decreases-argument_fits : goal.decreases-argument_fits
decreases-argument_fits l = 4 * l.room + 1

abbrev pub decreases-codes_fit : goal.decreases-codes_fit
decreases-codes_fit l = 4 * l.room + 3

abbrev pub decreases-fallback_fits : goal.decreases-fallback_fits
decreases-fallback_fits l = 4 * l.room + 1

abbrev pub decreases-target_fits : goal.decreases-target_fits
decreases-target_fits l = 4 * l.room

abbrev pub decreases-items_fit : goal.decreases-items_fit
decreases-items_fit l = 4 * l.room + 2

abbrev pub decreases-item_fits : goal.decreases-item_fits
decreases-item_fits l = 4 * l.room + 1

abbrev pub invariant-arguments_fit-loop-argument : goal.invariant-arguments_fit-loop-argument
invariant-arguments_fit-loop-argument l =
    (arguments_fit l.in_index (arguments_of l.arguments) ≡ arguments_fit l.in_index (arguments_of (drop l.argument-index l.arguments)))
    × (arguments_height (arguments_of (drop l.argument-index l.arguments)) ≤ l.room → arguments_height (arguments_of l.arguments) ≤ l.room)

abbrev pub invariant-items_fit-loop-item : goal.invariant-items_fit-loop-item
invariant-items_fit-loop-item l =
    (items_fit l.in_index (items_of l.items) ≡ items_fit l.in_index (items_of (drop l.item-index l.items)))
    × (items_height (items_of (drop l.item-index l.items)) ≤ l.room → items_height (items_of l.items) ≤ l.room)
