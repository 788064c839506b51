-- What the fields of an expression mean.
use Rattle.std.specs.Prelude.{List, [], ◌∷◌}
use Rattle.spec_program.specs.Tree.{Expr, literal, variable, own_length, unary, binary, both, either, conditional, listing, call, property, verb_call, index, range, caught, assignment, scatter, Arguments, no_arguments, argument, splice, Codes as Meant, any_code, codes_in, Fallback as Replacement, the_code, instead, Target as Place, to_variable, to_property, to_index, to_range, Items, no_items, required, optional, remaining, defaulted}
use Rattle.moo_value.specs.Operators.{unary_of, binary_of}
use Rattle.moo_tree.specs.declared.expression.ExpressionNode.{ExpressionNode}
use Rattle.moo_tree.specs.declared.expression.ExpressionNode.TheVariants.{Literal, Variable, OwnLength, Unary, Binary, Both, Either, Conditional, List as AList, Call, Property, VerbCall, Index, Range, Catch, Assignment, Scatter}
use Rattle.moo_tree.specs.declared.expression.Argument.{Argument}
use Rattle.moo_tree.specs.declared.expression.Argument.TheVariants.{Value, Splice}
use Rattle.moo_tree.specs.declared.expression.Codes.{Codes}
use Rattle.moo_tree.specs.declared.expression.Codes.TheVariants.{Any, Listed}
use Rattle.moo_tree.specs.declared.expression.Fallback.{Fallback}
use Rattle.moo_tree.specs.declared.expression.Fallback.TheVariants.{TheCode, Instead}
use Rattle.moo_tree.specs.declared.expression.TargetNode.{TargetNode}
use Rattle.moo_tree.specs.declared.expression.TargetNode.TheVariants.{Variable as AVariable, Property as AProperty, Index as AnIndex, Range as ARange}
use Rattle.moo_tree.specs.declared.expression.Item.{Item}
use Rattle.moo_tree.specs.declared.expression.Item.TheVariants.{Required, Optional, Rest, Default}

abbrev pub arguments_of : List Argument → Arguments
arguments_of [] = no_arguments
arguments_of (Value e ∷ more) = argument e (arguments_of more)
arguments_of (Splice e ∷ more) = splice e (arguments_of more)

abbrev pub codes_of : Codes → Meant
codes_of Any = any_code
codes_of (Listed es) = codes_in (arguments_of es.items)

abbrev pub fallback_of : Fallback → Replacement
fallback_of TheCode = the_code
fallback_of (Instead e) = instead e.value

abbrev pub items_of : List Item → Items
items_of [] = no_items
items_of (Required x ∷ more) = required x (items_of more)
items_of (Optional x ∷ more) = optional x (items_of more)
items_of (Rest x ∷ more) = remaining x (items_of more)
items_of (Default x e ∷ more) = defaulted x e (items_of more)

abbrev pub node_target : TargetNode → Place
node_target (AVariable x) = to_variable x
node_target (AProperty o p) = to_property o.value p.value
node_target (AnIndex t i) = to_index t.value i.value
node_target (ARange t a b) = to_range t.value a.value b.value

abbrev pub node_expr : ExpressionNode → Expr
node_expr (Literal v) = literal v
node_expr (Variable x) = variable x
node_expr OwnLength = own_length
node_expr (Unary u a) = unary (unary_of u) a.value
node_expr (Binary o a b) = binary (binary_of o) a.value b.value
node_expr (Both a b) = both a.value b.value
node_expr (Either a b) = either a.value b.value
node_expr (Conditional c a b) = conditional c.value a.value b.value
node_expr (AList es) = listing (arguments_of es.items)
node_expr (Call f es) = call f (arguments_of es.items)
node_expr (Property o p) = property o.value p.value
node_expr (VerbCall o v es) = verb_call o.value v.value (arguments_of es.items)
node_expr (Index x i) = index x.value i.value
node_expr (Range x a b) = range x.value a.value b.value
node_expr (Catch e cs d) = caught e.value (codes_of cs) (fallback_of d)
node_expr (Assignment t e) = assignment t e.value
node_expr (Scatter xs e) = scatter (items_of xs.items) e.value
