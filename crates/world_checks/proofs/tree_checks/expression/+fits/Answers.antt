use Rattle.std.proofs.Common.{◌≤◌, [], ◌∷◌, arith}
use Rattle.moo_tree.specs.Depth.{arguments_depth, items_depth}
use Rattle.moo_tree.specs.ExpressionView.{arguments_of, items_of}
use Rattle.moo_tree.proofs.Sameness.{argument_within, item_within}
use Rattle.world_checks.proofs.tree_checks.expression.+fits.Goals as goal

pub arguments_fit-argument_fits-requires : goal.arguments_fit-argument_fits-requires
arguments_fit-argument_fits-requires t c =
    let h : arguments_depth (arguments_of (c.argument-item.result ∷ [])) ≤ arguments_depth (arguments_of c.args.arguments.now) = rw c.argument-item.is (argument_within _ _ _ c.loop-argument-test.true) in
    (omega (arith, h), tt)

pub items_fit-item_fits-requires : goal.items_fit-item_fits-requires
items_fit-item_fits-requires t c =
    let h : items_depth (items_of (c.item-item.result ∷ [])) ≤ items_depth (items_of c.args.items.now) = rw c.item-item.is (item_within _ _ _ c.loop-item-test.true) in
    (omega (arith, h), tt)
