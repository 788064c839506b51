use Rattle.std.proofs.Common.{◌≡◌, ◌+◌, ◌*◌, List, [], ◌∷◌, ◌++◌, drop}
use Rattle.std.specs.Prelude.{max}
use Rattle.spec_program.specs.Tokens.{Token}
use Rattle.spec_program.specs.CanonicalTokens.{arguments_tokens, further_arguments, items_tokens, further_items}
use Rattle.moo_tree.specs.Depth.{expr_depth, arguments_depth, codes_depth, fallback_depth, target_depth, items_depth}
use Rattle.moo_tree.specs.ExpressionView.{arguments_of, codes_of, fallback_of, items_of}
use Rattle.tokens_ahead.specs.Bare.{bare}
use Rattle.tree_tokens.proofs.expression.+ahead.Given as goal

abbrev pub decreases-behind_expression : goal.decreases-behind_expression
decreases-behind_expression l = 8 * expr_depth l.expression.now + 1

abbrev pub decreases-behind_compound : goal.decreases-behind_compound
decreases-behind_compound l = 8 * expr_depth l.expression.now

abbrev pub decreases-behind_at : goal.decreases-behind_at
decreases-behind_at l = 8 * expr_depth l.expression.now + 3

abbrev pub decreases-behind_group : goal.decreases-behind_group
decreases-behind_group l = 8 * expr_depth l.expression.now + 2

abbrev pub decreases-behind_index : goal.decreases-behind_index
decreases-behind_index l = 8 * expr_depth l.index.now + 2

abbrev pub decreases-behind_range : goal.decreases-behind_range
decreases-behind_range l = 8 * max (expr_depth l.first.now) (expr_depth l.last.now) + 2

abbrev pub decreases-behind_dotted : goal.decreases-behind_dotted
decreases-behind_dotted l = 8 * max (expr_depth l.object.now) (expr_depth l.name.now) + 4

abbrev pub decreases-behind_parentheses : goal.decreases-behind_parentheses
decreases-behind_parentheses l = 8 * arguments_depth (arguments_of l.arguments.now) + 4

abbrev pub decreases-behind_arguments : goal.decreases-behind_arguments
decreases-behind_arguments l = 8 * arguments_depth (arguments_of l.arguments.now) + 3

abbrev pub decreases-behind_argument : goal.decreases-behind_argument
decreases-behind_argument l = 8 * arguments_depth (arguments_of (l.argument.now ∷ [])) + 2

abbrev pub decreases-behind_codes : goal.decreases-behind_codes
decreases-behind_codes l = 8 * codes_depth (codes_of l.codes.now) + 4

abbrev pub decreases-behind_catch : goal.decreases-behind_catch
decreases-behind_catch l = 8 * max (expr_depth l.body.now) (max (codes_depth (codes_of l.codes.now)) (fallback_depth (fallback_of l.fallback.now))) + 5

abbrev pub decreases-behind_fallback : goal.decreases-behind_fallback
decreases-behind_fallback l = 8 * fallback_depth (fallback_of l.fallback.now) + 4

abbrev pub decreases-behind_target : goal.decreases-behind_target
decreases-behind_target l = 8 * target_depth l.target.now + 1

abbrev pub decreases-behind_items : goal.decreases-behind_items
decreases-behind_items l = 8 * items_depth (items_of l.items.now) + 3

abbrev pub decreases-behind_item : goal.decreases-behind_item
decreases-behind_item l = 8 * items_depth (items_of (l.item.now ∷ [])) + 2

abbrev pub invariant-behind_arguments-loop-argument : goal.invariant-behind_arguments-loop-argument
invariant-behind_arguments-loop-argument l =
    (ks : List Token) → bare l.rest ≡ further_arguments (arguments_of (drop l.argument-index l.others)) ++ ks
    → bare l.fn.text ≡ arguments_tokens (arguments_of l.arguments) ++ ks

abbrev pub invariant-behind_items-loop-item : goal.invariant-behind_items-loop-item
invariant-behind_items-loop-item l =
    (ks : List Token) → bare l.rest ≡ further_items (items_of (drop l.item-index l.others)) ++ ks
    → bare l.fn.text ≡ items_tokens (items_of l.items) ++ ks
