-- The parts of an expression nest less deep than it.
use Rattle.std.specs.Prelude.{suc, ◌≤◌, max, List, [], ◌∷◌}
use Rattle.std.proofs.Common.{arith}
use denote.Param.Weighed.{most}
use Rattle.moo_tree.specs.Depth.{expr_depth, target_depth, arguments_depth, items_depth, codes_depth, fallback_depth}
use Rattle.moo_tree.specs.ExpressionView.{node_expr, node_target, arguments_of, items_of, codes_of, fallback_of}
use Rattle.moo_tree.specs.declared.expression.ExpressionNode.{ExpressionNode}
use Rattle.moo_tree.specs.declared.expression.ExpressionNode.TheVariants.{Literal, Variable, OwnLength, Unary, Binary, Both, Either, Conditional, List as AList, Call, Property, VerbCall, Index, Range, Catch, Assignment, Scatter}
use Rattle.moo_tree.specs.declared.expression.Argument.{Argument}
use Rattle.moo_tree.specs.declared.expression.Argument.TheVariants.{Value, Splice}
use Rattle.moo_tree.specs.declared.expression.Codes.{Codes}
use Rattle.moo_tree.specs.declared.expression.Codes.TheVariants.{Any, Listed}
use Rattle.moo_tree.specs.declared.expression.Fallback.{Fallback}
use Rattle.moo_tree.specs.declared.expression.Fallback.TheVariants.{TheCode, Instead}
use Rattle.moo_tree.specs.declared.expression.TargetNode.{TargetNode}
use Rattle.moo_tree.specs.declared.expression.TargetNode.TheVariants.{Variable as AVariable, Property as AProperty, Index as AnIndex, Range as ARange}
use Rattle.moo_tree.specs.declared.expression.Item.{Item}
use Rattle.moo_tree.specs.declared.expression.Item.TheVariants.{Required, Optional, Rest, Default}
use Rattle.moo_tree.specs.declared.expression.Expression.TheDeep.{deep-ExpressionNode, deep-TargetNode, deep-Argument, deep-Codes, deep-Fallback, deep-Item}

arguments_fall : (es : List Argument) → most (λ a. deep-Argument a) es ≤ suc (arguments_depth (arguments_of es))
arguments_fall [] = omega arith
arguments_fall (Value e ∷ es) = omega (arith, arguments_fall es)
arguments_fall (Splice e ∷ es) = omega (arith, arguments_fall es)

codes_fall : (c : Codes) → deep-Codes c ≤ suc (codes_depth (codes_of c))
codes_fall Any = omega arith
codes_fall (Listed es) = omega (arith, arguments_fall es.items)

fallback_falls : (d : Fallback) → deep-Fallback d ≤ suc (fallback_depth (fallback_of d))
fallback_falls TheCode = omega arith
fallback_falls (Instead e) = omega arith

items_fall : (xs : List Item) → most (λ x. deep-Item x) xs ≤ suc (items_depth (items_of xs))
items_fall [] = omega arith
items_fall (Required x ∷ xs) = omega (arith, items_fall xs)
items_fall (Optional x ∷ xs) = omega (arith, items_fall xs)
items_fall (Rest x ∷ xs) = omega (arith, items_fall xs)
items_fall (Default x e ∷ xs) = omega (arith, items_fall xs)

pub target_falls : (n : TargetNode) → max (deep-TargetNode n) 0 ≤ target_depth (node_target n)
target_falls (AVariable x) = omega arith
target_falls (AProperty o p) = omega arith
target_falls (AnIndex t i) = omega arith
target_falls (ARange t a b) = omega arith

pub expr_falls : (n : ExpressionNode) → max (deep-ExpressionNode n) 0 ≤ expr_depth (node_expr n)
expr_falls (Literal v) = omega arith
expr_falls (Variable x) = omega arith
expr_falls OwnLength = omega arith
expr_falls (Unary u a) = omega arith
expr_falls (Binary o a b) = omega arith
expr_falls (Both a b) = omega arith
expr_falls (Either a b) = omega arith
expr_falls (Conditional c a b) = omega arith
expr_falls (AList es) = omega (arith, arguments_fall es.items)
expr_falls (Call f es) = omega (arith, arguments_fall es.items)
expr_falls (Property o p) = omega arith
expr_falls (VerbCall o v es) = omega (arith, arguments_fall es.items)
expr_falls (Index x i) = omega arith
expr_falls (Range x a b) = omega arith
expr_falls (Catch e cs d) = omega (arith, codes_fall cs, fallback_falls d)
expr_falls (Assignment t e) = omega arith
expr_falls (Scatter xs e) = omega (arith, items_fall xs.items)
