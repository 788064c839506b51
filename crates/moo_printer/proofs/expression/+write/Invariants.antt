use Rattle.std.proofs.Common.{◌≡◌, ◌+◌, ◌*◌, [], ◌∷◌, ◌++◌, drop}
use Rattle.std.specs.Prelude.{max}
use Rattle.spec_program.specs.Spelling.{arguments_text, further_arguments, items_text, further_items}
use Rattle.moo_tree.specs.Depth.{expr_depth, arguments_depth, codes_depth, target_depth, items_depth}
use Rattle.moo_tree.specs.ExpressionView.{arguments_of, codes_of, items_of}
use Rattle.moo_printer.proofs.expression.+write.Given as goal

abbrev pub decreases-write_expression : goal.decreases-write_expression
decreases-write_expression l = 4 * expr_depth l.expression.now

abbrev pub decreases-write_at : goal.decreases-write_at
decreases-write_at l = 4 * expr_depth l.expression.now + 1

abbrev pub decreases-write_infix : goal.decreases-write_infix
decreases-write_infix l = 4 * max (expr_depth l.left.now) (expr_depth l.right.now) + 2

abbrev pub decreases-write_dotted : goal.decreases-write_dotted
decreases-write_dotted l = 4 * max (expr_depth l.object.now) (expr_depth l.name.now) + 2

abbrev pub decreases-write_arguments : goal.decreases-write_arguments
decreases-write_arguments l = 4 * arguments_depth (arguments_of l.arguments.now) + 2

abbrev pub decreases-write_argument : goal.decreases-write_argument
decreases-write_argument l = 4 * arguments_depth (arguments_of (l.argument.now ∷ [])) + 1

abbrev pub decreases-write_codes : goal.decreases-write_codes
decreases-write_codes l = 4 * codes_depth (codes_of l.codes.now) + 3

abbrev pub decreases-write_target : goal.decreases-write_target
decreases-write_target l = 4 * target_depth l.target.now

abbrev pub decreases-write_items : goal.decreases-write_items
decreases-write_items l = 4 * items_depth (items_of l.items.now) + 2

abbrev pub decreases-write_item : goal.decreases-write_item
decreases-write_item l = 4 * items_depth (items_of (l.item.now ∷ [])) + 1

abbrev pub invariant-write_arguments-loop-argument : goal.invariant-write_arguments-loop-argument
invariant-write_arguments-loop-argument l =
    l.out ++ further_arguments (arguments_of (drop l.argument-index l.rest)) ≡ l.fn.out ++ arguments_text (arguments_of l.arguments)

abbrev pub invariant-write_items-loop-item : goal.invariant-write_items-loop-item
invariant-write_items-loop-item l =
    l.out ++ further_items (items_of (drop l.item-index l.rest)) ≡ l.fn.out ++ items_text (items_of l.items)
