-- The others of some parts nest no deeper than all of them.
use Rattle.std.proofs.Common.{◌≤◌, List, ◌∷◌, arith}
use Rattle.moo_tree.specs.Depth.{arguments_depth, items_depth}
use Rattle.moo_tree.specs.ExpressionView.{arguments_of, items_of}
use Rattle.moo_tree.specs.declared.expression.Argument.{Argument}
use Rattle.moo_tree.specs.declared.expression.Argument.TheVariants.{Value, Splice}
use Rattle.moo_tree.specs.declared.expression.Item.{Item}
use Rattle.moo_tree.specs.declared.expression.Item.TheVariants.{Required, Optional, Rest, Default}

pub other_arguments : (a : Argument) (es : List Argument) → arguments_depth (arguments_of es) ≤ arguments_depth (arguments_of (a ∷ es))
other_arguments (Value e) es = omega arith
other_arguments (Splice e) es = omega arith

pub other_items : (x : Item) (xs : List Item) → items_depth (items_of xs) ≤ items_depth (items_of (x ∷ xs))
other_items (Required x) xs = omega arith
other_items (Optional x) xs = omega arith
other_items (Rest x) xs = omega arith
other_items (Default x e) xs = omega arith
