-- What was read, without where it lies in memory.
use Rattle.std.specs.Prelude.{◌≡◌, Bool, true, false, List, reverse, Option, Some, None}
use Rattle.spec_program.specs.Tree.{Expr, variable, property, index, range, Target, to_variable, to_property, to_index, to_range}
use Rattle.spec_program.specs.Reading.{Node}
use Rattle.spec_program.specs.ReadExpressions as by
use Rattle.spec_program.specs.Frames as f
use Rattle.moo_value.specs.Operators.{binary_of}
use Rattle.moo_tree.specs.declared.expression.Argument.{Argument}
use Rattle.moo_tree.specs.ExpressionView.{arguments_of, items_of, codes_of}
use Rattle.moo_reader.specs.declared.found.Found.{Found}
use Rattle.moo_reader.specs.declared.found.Whole.{Whole}
use Rattle.moo_reader.specs.declared.found.Arguments.{Arguments}
use Rattle.moo_reader.specs.declared.found.Braces.{Braces}
use Rattle.moo_reader.specs.declared.found.Braces.TheVariants.{NoScatter, PerhapsScatter, SurelyScatter}
use Rattle.moo_reader.specs.declared.found.Operand.{Operand}
use Rattle.moo_reader.specs.declared.found.Allowed.{Allowed}
use Rattle.moo_reader.specs.declared.found.Items.{Items}
use Rattle.moo_reader.specs.declared.found.BracedItem.{BracedItem}
use Rattle.moo_reader.specs.declared.found.BracedItem.TheVariants as item
use Rattle.moo_reader.specs.declared.found.FoundCodes.{FoundCodes}
use Rattle.moo_reader.specs.declared.found.Join.{Join}
use Rattle.moo_reader.specs.declared.found.Join.TheVariants as join

abbrev pub found_of : Found → by.Found
found_of e = record { tree = e.whole.value.tree; line = e.whole.value.line; nodes = e.whole.value.nodes }

abbrev pub arguments_found : Arguments → by.FoundArguments
arguments_found a = record { tree = arguments_of (reverse a.reversed.items); nodes = a.nodes }

abbrev pub InOrder : List Argument → List Node → Arguments → Type 0
InOrder es ns a = (arguments_of es ≡ (arguments_found a).tree) × (ns ≡ (arguments_found a).nodes)

abbrev pub join_of : Join → f.Join
join_of (join.Operator o) = f.by_operator (binary_of o)
join_of join.Both = f.by_both
join_of join.Either = f.by_either

abbrev pub braces_of : Braces → by.Braces
braces_of NoScatter = by.no_braces
braces_of (PerhapsScatter s) = by.perhaps_scatter (items_of s.value.items.items) s.value.nodes
braces_of (SurelyScatter s) = by.surely_scatter (items_of s.value.items.items) s.value.nodes

-- the target that a tree is, where it is one
abbrev pub stepped : Option Target → (Target → Target) → Option Target
stepped None step = None
stepped (Some t) step = Some (step t)

abbrev pub as_target : Expr → Option Target
as_target (variable x) = Some (to_variable x)
as_target (property o p) = Some (to_property o p)
as_target (index a i) = stepped (as_target a) (λ t. to_index t i)
as_target (range a i j) = stepped (as_target a) (λ t. to_range t i j)
as_target e = None

abbrev pub target_if : Bool → Expr → Option Target
target_if true e = as_target e
target_if false e = None

abbrev pub whole_of : Whole → by.Operand
whole_of w = record {
  found = record { tree = w.tree; line = w.line; nodes = w.nodes };
  target = target_if w.is_target w.tree;
  ranged = w.ranged;
  braces = braces_of w.braces;
}

abbrev pub operand_of : Operand → by.Operand
operand_of o = whole_of o.whole.value

abbrev pub allowed_of : Allowed → by.Allowed
allowed_of a = record { as_list = a.as_list; as_scatter = a.as_scatter; has_rest = a.has_rest }

abbrev pub items_found : Items → by.FoundItems
items_found f = record {
  allowed = allowed_of f.allowed;
  arguments = (arguments_found f.arguments).tree;
  argument_nodes = (arguments_found f.arguments).nodes;
  items = items_of (reverse f.reversed.items);
  default_nodes = f.default_nodes;
}

abbrev pub codes_found : FoundCodes → by.FoundCodes
codes_found c = record { tree = codes_of c.tree; nodes = c.nodes }

abbrev pub item_of : BracedItem → f.Item
item_of (item.Bare x line) = f.bare x line
item_of (item.BareRest x line) = f.bare_rest x line
item_of (item.BareOptional x) = f.bare_optional x
item_of (item.WithDefault x e) = f.with_its_default x (found_of e)
item_of (item.Other spliced e) = f.other spliced (found_of e)
