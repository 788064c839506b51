use Rattle.std.proofs.Common.{◌≡◌, suc, drop, ◌-◌, ◌<◌, ◌≤◌, length, [], ◌∷◌, ap, ◌∙◌, false, arith}
use Rattle.spec_program.specs.Construct.{of_expr}
use Rattle.moo_tree.specs.Depth.{arguments_depth, items_depth}
use Rattle.moo_tree.specs.ExpressionView.{arguments_of, items_of}
use Rattle.moo_tree.proofs.Sameness.{argument_within, item_within}
use Rattle.moo_code.specs.Layout.{opens as opens_of, stop, inner, plain, above, size, expr_layout, target_layout, default_layout, items_layout, slots_of, default_parts}
use Rattle.moo_program.specs.Drafting.{around_of, state, count, over, with_part}
use Rattle.moo_program.proofs.Drafted.{closed}
use Rattle.moo_program.proofs.ScatterRows.{item_next}
use Rattle.moo_program.proofs.moo_bytecode.draft.Draft.+expression.Goals as goal

pub arguments-argument-requires : goal.arguments-argument-requires
arguments-argument-requires t c =
    let b : c.loop-i.i - 1 < length c.args.arguments.now = omega (arith, c.loop-i-test.true, c.loop-i.auto.i) in
    let h : arguments_depth (arguments_of (c.index-arguments-i.result ∷ [])) ≤ arguments_depth (arguments_of c.args.arguments.now) = rw c.index-arguments-i.is (argument_within _ _ _ b) in
    (omega (arith, h), tt)

pub items-item-requires : goal.items-item-requires
items-item-requires t c =
    let b : c.loop-i.i - 1 < length c.args.items.now = omega (arith, c.loop-i-test.true, c.loop-i.auto.i) in
    let h : items_depth (items_of (c.index-items-i.result ∷ [])) ≤ items_depth (items_of c.args.items.now) = rw c.index-items-i.is (item_within _ _ _ b) in
    (omega (arith, h), tt)

pub items-loop-i-preserved : goal.items-loop-i-preserved
items-loop-i-preserved t c =
    let x = around_of c.args.around in
    let xs = c.args.items.now in
    let w = slots_of (items_of xs) in
    let ds = default_parts 1 (items_of xs) in
    let j = c.loop-i.i - 1 in
    let s = state c.args.self.now in
    let b : j < length xs = omega (arith, c.loop-i-test.true, c.loop-i.auto.i) in
    let i : c.loop-i.i ≡ suc j = omega (arith, c.loop-i-test.true) in
    c.in_ok-item.ensures
    ∙ ap (over (items_layout x w ds c.in_ok-number.number (items_of (c.index-items-i.result ∷ [])) stop)) c.loop-i.invariant
    ∙ ap (λ n. over (items_layout x w ds n (items_of (c.index-items-i.result ∷ [])) stop) (over (items_layout x w ds (suc c.loop-i.i) (items_of (drop c.loop-i.i xs)) stop) s)) c.in_ok-number.ensures
    ∙ ap (λ i. over (items_layout x w ds (suc j) (items_of (c.index-items-i.result ∷ [])) stop) (over (items_layout x w ds (suc i) (items_of (drop i xs)) stop) s)) i
    ∙ ap (λ r. over (items_layout x w ds (suc j) (items_of (r ∷ [])) stop) (over (items_layout x w ds (suc (suc j)) (items_of (drop (suc j) xs)) stop) s)) c.index-items-i.is
    ∙ item_next x w ds (suc j) xs j _ s b

pub default_part-returns : goal.default_part-returns
default_part-returns t c =
    let x = around_of c.args.around in
    let e = c.args.value.now in
    let l = default_layout x c.args.variable.now e in
    let after = c.operand.new.self in
    let items = c.mark-mark.result.items in
    let put = c.mark-mark.result.size in
    let inside : state after ≡ over l (state c.close.new.self) =
    c.in_ok-operand.ensures ∙ ap (λ z. over (inner (plain (of_expr e)) (expr_layout z e) stop) (state c.own.new.self)) c.in_ok-inside.ensures
    ∙ ap (over (inner (plain (of_expr e)) (expr_layout (above x 0) e) stop)) c.in_ok-own.ensures in
    c.in_ok-open.ensures ∙ closed l c.close.new.self after items put false inside c.mark-mark.ensures.items c.mark-mark.ensures.size
    ∙ ap (λ s. with_part false (count l) (size l) (over l s)) c.in_ok-close.ensures

pub part-returns : goal.part-returns
part-returns t c =
    let l = expr_layout (around_of c.args.around) c.args.expression.now in
    let after = c.expression.new.self in
    let items = c.mark-mark.result.items in
    let put = c.mark-mark.result.size in
    let o = opens_of (of_expr c.args.expression.now) in
    c.in_ok-open.ensures ∙ ap (λ b. with_part b (length after.items.items - items) (after.size - put) (state after)) c.opens.ensures
    ∙ closed l c.close.new.self after items put o c.in_ok-expression.ensures c.mark-mark.ensures.items c.mark-mark.ensures.size
    ∙ ap (λ s. with_part o (count l) (size l) (over l s)) c.in_ok-close.ensures

pub target_part-returns : goal.target_part-returns
target_part-returns t c =
    let l = target_layout (around_of c.args.around) c.args.target.now in
    let after = c.target.new.self in
    let items = c.mark-mark.result.items in
    let put = c.mark-mark.result.size in
    c.in_ok-open.ensures ∙ closed l c.close.new.self after items put false c.in_ok-target.ensures c.mark-mark.ensures.items c.mark-mark.ensures.size
    ∙ ap (λ s. with_part false (count l) (size l) (over l s)) c.in_ok-close.ensures
