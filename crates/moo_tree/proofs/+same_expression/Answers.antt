use Rattle.std.proofs.Common.{◌≤◌, [], ◌∷◌, arith}
use Rattle.moo_tree.specs.Depth.{arguments_depth, items_depth}
use Rattle.moo_tree.specs.ExpressionView.{arguments_of, items_of}
use Rattle.moo_tree.proofs.Sameness.{argument_within, item_within}
use Rattle.moo_tree.proofs.+same_expression.Goals as goal

pub same_expression::same_arguments-same-requires : goal.same_expression::same_arguments-same-requires
same_expression::same_arguments-same-requires t c =
    let h : arguments_depth (arguments_of (c.index-xs-i.result ∷ [])) ≤ arguments_depth (arguments_of c.args.xs.now) = rw c.index-xs-i.is (argument_within _ _ _ c.loop-i-test.true) in
    (omega (arith, h), tt)

pub same_expression::same_items-same-requires : goal.same_expression::same_items-same-requires
same_expression::same_items-same-requires t c =
    let h : items_depth (items_of (c.index-xs-i.result ∷ [])) ≤ items_depth (items_of c.args.xs.now) = rw c.index-xs-i.is (item_within _ _ _ c.loop-i-test.true) in
    (omega (arith, h), tt)
