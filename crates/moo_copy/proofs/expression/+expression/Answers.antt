use Rattle.std.proofs.Common.{◌≤◌, [], ◌∷◌, arith}
use Rattle.moo_tree.specs.Depth.{arguments_depth, items_depth}
use Rattle.moo_tree.specs.ExpressionView.{arguments_of, items_of}
use Rattle.moo_tree.proofs.Sameness.{argument_within, item_within}
use Rattle.moo_copy.proofs.expression.+expression.Goals as goal

pub copy_arguments-copy_argument-requires : goal.copy_arguments-copy_argument-requires
copy_arguments-copy_argument-requires t c =
    let h : arguments_depth (arguments_of (c.index-arguments-i.result ∷ [])) ≤ arguments_depth (arguments_of c.args.arguments.now) = rw c.index-arguments-i.is (argument_within _ _ _ c.loop-i-test.true) in
    (omega (arith, h), tt)

pub copy_items-copy_item-requires : goal.copy_items-copy_item-requires
copy_items-copy_item-requires t c =
    let h : items_depth (items_of (c.index-items-i.result ∷ [])) ≤ items_depth (items_of c.args.items.now) = rw c.index-items-i.is (item_within _ _ _ c.loop-i-test.true) in
    (omega (arith, h), tt)
