use Rattle.std.proofs.Common.{◌≡◌, ◌+◌, ◌*◌, suc, drop, [], ◌∷◌}
use Rattle.std.specs.Prelude.{max}
use Rattle.moo_tree.specs.Depth.{expr_depth, target_depth, arguments_depth, codes_depth, fallback_depth, items_depth}
use Rattle.moo_tree.specs.ExpressionView.{arguments_of, codes_of, fallback_of, items_of}
use Rattle.moo_code.specs.Layout.{stop, arguments_layout, items_layout, slots_of, default_parts}
use Rattle.moo_program.specs.Drafting.{around_of, unraised_of, state, over}
use Rattle.moo_program.proofs.moo_bytecode.draft.Draft.+expression.Given as goal

abbrev pub decreases-expression : goal.decreases-expression
decreases-expression l = 8 * expr_depth l.expression.now

abbrev pub decreases-part : goal.decreases-part
decreases-part l = 8 * expr_depth l.expression.now + 1

abbrev pub decreases-operand : goal.decreases-operand
decreases-operand l = 8 * expr_depth l.expression.now + 2

abbrev pub decreases-target : goal.decreases-target
decreases-target l = 8 * target_depth l.target.now

abbrev pub decreases-target_part : goal.decreases-target_part
decreases-target_part l = 8 * target_depth l.target.now + 1

abbrev pub decreases-of_one : goal.decreases-of_one
decreases-of_one l = 8 * expr_depth l.operand.now + 3

abbrev pub decreases-two_operands : goal.decreases-two_operands
decreases-two_operands l = 8 * max (expr_depth l.left.now) (expr_depth l.right.now) + 3

abbrev pub decreases-of_two : goal.decreases-of_two
decreases-of_two l = 8 * max (expr_depth l.left.now) (expr_depth l.right.now) + 4

abbrev pub decreases-deciding : goal.decreases-deciding
decreases-deciding l = 8 * max (expr_depth l.left.now) (expr_depth l.right.now) + 3

abbrev pub decreases-conditional : goal.decreases-conditional
decreases-conditional l = 8 * max (expr_depth l.condition.now) (max (expr_depth l.first.now) (expr_depth l.second.now)) + 4

abbrev pub decreases-index : goal.decreases-index
decreases-index l = 8 * max (expr_depth l.whole.now) (expr_depth l.index.now) + 3

abbrev pub decreases-range : goal.decreases-range
decreases-range l = 8 * max (expr_depth l.whole.now) (max (expr_depth l.first.now) (expr_depth l.last.now)) + 3

abbrev pub decreases-assignment : goal.decreases-assignment
decreases-assignment l = 8 * max (target_depth l.target.now) (expr_depth l.value.now) + 3

abbrev pub decreases-indexed_target : goal.decreases-indexed_target
decreases-indexed_target l = 8 * max (target_depth l.within.now) (expr_depth l.index.now) + 3

abbrev pub decreases-ranged_target : goal.decreases-ranged_target
decreases-ranged_target l = 8 * max (target_depth l.within.now) (max (expr_depth l.first.now) (expr_depth l.last.now)) + 3

abbrev pub decreases-argument : goal.decreases-argument
decreases-argument l = 8 * arguments_depth (arguments_of (l.argument.now ∷ [])) + 2

abbrev pub decreases-arguments : goal.decreases-arguments
decreases-arguments l = 8 * arguments_depth (arguments_of l.arguments.now) + 3

abbrev pub invariant-arguments-loop-i : goal.invariant-arguments-loop-i
invariant-arguments-loop-i l =
    state l.self ≡ over (arguments_layout (around_of l.around) l.held (unraised_of l.unraised) (arguments_of (drop l.i l.arguments)) stop) (state l.initial.self)

abbrev pub decreases-argument_list : goal.decreases-argument_list
decreases-argument_list l = 8 * arguments_depth (arguments_of l.arguments.now) + 4

abbrev pub decreases-verb_call : goal.decreases-verb_call
decreases-verb_call l = 8 * max (expr_depth l.object.now) (max (expr_depth l.name.now) (arguments_depth (arguments_of l.arguments.now))) + 4

abbrev pub decreases-fallback : goal.decreases-fallback
decreases-fallback l = 8 * fallback_depth (fallback_of l.fallback.now) + 3

abbrev pub decreases-codes : goal.decreases-codes
decreases-codes l = 8 * codes_depth (codes_of l.codes.now) + 4

abbrev pub decreases-caught_expression : goal.decreases-caught_expression
decreases-caught_expression l =
    8 * max (expr_depth l.expression.now) (max (codes_depth (codes_of l.codes.now)) (fallback_depth (fallback_of l.fallback.now))) + 5

abbrev pub decreases-default_part : goal.decreases-default_part
decreases-default_part l = 8 * expr_depth l.value.now + 3

abbrev pub decreases-item : goal.decreases-item
decreases-item l = 8 * items_depth (items_of (l.item.now ∷ [])) + 4

abbrev pub decreases-items : goal.decreases-items
decreases-items l = 8 * items_depth (items_of l.items.now) + 5

abbrev pub invariant-items-loop-i : goal.invariant-items-loop-i
invariant-items-loop-i l =
    state l.self
    ≡ over (items_layout (around_of l.around) (slots_of (items_of l.items)) (default_parts 1 (items_of l.items)) (suc l.i) (items_of (drop l.i l.items)) stop) (state l.initial.self)

abbrev pub decreases-scatter : goal.decreases-scatter
decreases-scatter l = 8 * max (items_depth (items_of l.items.now)) (expr_depth l.value.now) + 6
