use Rattle.std.proofs.Common.{◌≡◌, ◌+◌, ◌*◌, [], ◌∷◌, drop}
use Rattle.spec_program.specs.Trees.{arguments_fit, items_fit}
use Rattle.moo_tree.specs.Depth.{expr_depth, arguments_depth, codes_depth, fallback_depth, target_depth, items_depth}
use Rattle.moo_tree.specs.ExpressionView.{arguments_of, codes_of, fallback_of, items_of}
use Rattle.world_checks.proofs.tree_checks.expression.+fits.Given as goal

abbrev pub decreases-expression_fits : goal.decreases-expression_fits
decreases-expression_fits l = 4 * expr_depth l.expression.now

abbrev pub decreases-arguments_fit : goal.decreases-arguments_fit
decreases-arguments_fit l = 4 * arguments_depth (arguments_of l.arguments.now) + 2

abbrev pub decreases-argument_fits : goal.decreases-argument_fits
decreases-argument_fits l = 4 * arguments_depth (arguments_of (l.argument.now ∷ [])) + 1

abbrev pub decreases-codes_fit : goal.decreases-codes_fit
decreases-codes_fit l = 4 * codes_depth (codes_of l.codes.now) + 3

abbrev pub decreases-fallback_fits : goal.decreases-fallback_fits
decreases-fallback_fits l = 4 * fallback_depth (fallback_of l.fallback.now) + 1

abbrev pub decreases-target_fits : goal.decreases-target_fits
decreases-target_fits l = 4 * target_depth l.target.now

abbrev pub decreases-items_fit : goal.decreases-items_fit
decreases-items_fit l = 4 * items_depth (items_of l.items.now) + 2

abbrev pub decreases-item_fits : goal.decreases-item_fits
decreases-item_fits l = 4 * items_depth (items_of (l.item.now ∷ [])) + 1

abbrev pub invariant-arguments_fit-loop-argument : goal.invariant-arguments_fit-loop-argument
invariant-arguments_fit-loop-argument l =
    arguments_fit l.in_index (arguments_of l.arguments) ≡ arguments_fit l.in_index (arguments_of (drop l.argument-index l.arguments))

abbrev pub invariant-items_fit-loop-item : goal.invariant-items_fit-loop-item
invariant-items_fit-loop-item l = items_fit l.in_index (items_of l.items) ≡ items_fit l.in_index (items_of (drop l.item-index l.items))
