use Rattle.std.proofs.Common.{◌≡◌, ◌+◌, ◌*◌, [], ◌∷◌, take, max}
use Rattle.moo_tree.specs.Depth.{expr_depth, arguments_depth, codes_depth, fallback_depth, target_depth, items_depth}
use Rattle.moo_tree.specs.ExpressionView.{arguments_of, items_of, codes_of, fallback_of}
use Rattle.moo_copy.proofs.expression.+expression.Given as goal

abbrev pub decreases-copy_expression : goal.decreases-copy_expression
decreases-copy_expression l = 5 * expr_depth l.expression.now

abbrev pub decreases-copy_part : goal.decreases-copy_part
decreases-copy_part l = 5 * expr_depth l.expression.now + 1

abbrev pub decreases-copy_pair : goal.decreases-copy_pair
decreases-copy_pair l = 5 * max (expr_depth l.left.now) (expr_depth l.right.now) + 2

abbrev pub decreases-copy_handler : goal.decreases-copy_handler
decreases-copy_handler l = 5 * max (codes_depth (codes_of l.codes.now)) (fallback_depth (fallback_of l.fallback.now)) + 4

abbrev pub decreases-copy_target : goal.decreases-copy_target
decreases-copy_target l = 5 * target_depth l.target.now

abbrev pub decreases-copy_target_part : goal.decreases-copy_target_part
decreases-copy_target_part l = 5 * target_depth l.target.now + 1

abbrev pub decreases-copy_codes : goal.decreases-copy_codes
decreases-copy_codes l = 5 * codes_depth (codes_of l.codes.now) + 3

abbrev pub decreases-copy_fallback : goal.decreases-copy_fallback
decreases-copy_fallback l = 5 * fallback_depth (fallback_of l.fallback.now) + 2

abbrev pub decreases-copy_argument : goal.decreases-copy_argument
decreases-copy_argument l = 5 * arguments_depth (arguments_of (l.argument.now ∷ [])) + 1

abbrev pub decreases-copy_arguments : goal.decreases-copy_arguments
decreases-copy_arguments l = 5 * arguments_depth (arguments_of l.arguments.now) + 2

abbrev pub decreases-copy_item : goal.decreases-copy_item
decreases-copy_item l = 5 * items_depth (items_of (l.item.now ∷ [])) + 1

abbrev pub decreases-copy_items : goal.decreases-copy_items
decreases-copy_items l = 5 * items_depth (items_of l.items.now) + 2

abbrev pub invariant-copy_arguments-loop-i : goal.invariant-copy_arguments-loop-i
invariant-copy_arguments-loop-i l = l.copies.items ≡ take l.i l.arguments

abbrev pub invariant-copy_items-loop-i : goal.invariant-copy_items-loop-i
invariant-copy_items-loop-i l = l.copies.items ≡ take l.i l.items
