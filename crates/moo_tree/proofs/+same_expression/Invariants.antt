use Rattle.std.proofs.Common.{◌≡◌, ◌+◌, ◌*◌, [], ◌∷◌, take}
use Rattle.moo_tree.specs.Depth.{expr_depth, arguments_depth, codes_depth, fallback_depth, target_depth, items_depth}
use Rattle.moo_tree.specs.ExpressionView.{arguments_of, items_of, codes_of, fallback_of}
use Rattle.moo_tree.proofs.+same_expression.Given as goal

abbrev pub decreases-expression::Expression::same : goal.decreases-expression::Expression::same
decreases-expression::Expression::same l = 4 * expr_depth l.self.now

abbrev pub decreases-expression::Target::same : goal.decreases-expression::Target::same
decreases-expression::Target::same l = 4 * target_depth l.self.now

abbrev pub decreases-expression::Codes::same : goal.decreases-expression::Codes::same
decreases-expression::Codes::same l = 4 * codes_depth (codes_of l.self.now) + 3

abbrev pub decreases-expression::Fallback::same : goal.decreases-expression::Fallback::same
decreases-expression::Fallback::same l = 4 * fallback_depth (fallback_of l.self.now) + 3

abbrev pub decreases-expression::Argument::same : goal.decreases-expression::Argument::same
decreases-expression::Argument::same l = 4 * arguments_depth (arguments_of (l.self.now ∷ [])) + 1

abbrev pub decreases-expression::Item::same : goal.decreases-expression::Item::same
decreases-expression::Item::same l = 4 * items_depth (items_of (l.self.now ∷ [])) + 1

abbrev pub decreases-same_expression::same_arguments : goal.decreases-same_expression::same_arguments
decreases-same_expression::same_arguments l = 4 * arguments_depth (arguments_of l.xs.now) + 2

abbrev pub decreases-same_expression::same_items : goal.decreases-same_expression::same_items
decreases-same_expression::same_items l = 4 * items_depth (items_of l.xs.now) + 2

abbrev pub invariant-same_expression::same_arguments-loop-i : goal.invariant-same_expression::same_arguments-loop-i
invariant-same_expression::same_arguments-loop-i l = take l.i l.xs ≡ take l.i l.ys

abbrev pub invariant-same_expression::same_items-loop-i : goal.invariant-same_expression::same_items-loop-i
invariant-same_expression::same_items-loop-i l = take l.i l.xs ≡ take l.i l.ys
