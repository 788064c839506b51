use Rattle.std.proofs.Common.{◌≤◌, [], ◌∷◌, ap, arith}
use Rattle.moo_tree.specs.Depth.{arguments_depth, items_depth}
use Rattle.moo_tree.specs.ExpressionView.{arguments_of, items_of}
use Rattle.moo_tree.proofs.Sameness.{argument_within, item_within}
use Rattle.tree_tokens.proofs.Parts.{other_arguments, other_items}
use Rattle.tree_tokens.proofs.expression.+ahead.Goals as goal

pub behind_arguments-behind_argument-requires-in-loop-argument : goal.behind_arguments-behind_argument-requires-in-loop-argument
behind_arguments-behind_argument-requires-in-loop-argument t c =
    let h : arguments_depth (arguments_of (c.argument-item.result ∷ [])) ≤ arguments_depth (arguments_of c.in-Some.others.now) = rw c.argument-item.is (argument_within _ _ _ c.loop-argument-test.true) in
    let e = ap (λ es. arguments_depth (arguments_of es)) c.in-Some.ensures.cases.0 in
    (omega (arith, h, e, other_arguments c.in-Some.first.now c.in-Some.others.now), tt)

pub behind_items-behind_item-requires-in-loop-item : goal.behind_items-behind_item-requires-in-loop-item
behind_items-behind_item-requires-in-loop-item t c =
    let h : items_depth (items_of (c.item-item.result ∷ [])) ≤ items_depth (items_of c.in-Some.others.now) = rw c.item-item.is (item_within _ _ _ c.loop-item-test.true) in
    let e = ap (λ xs. items_depth (items_of xs)) c.in-Some.ensures.cases.0 in
    (omega (arith, h, e, other_items c.in-Some.first.now c.in-Some.others.now), tt)
