-- What a lent part means.
use Rattle.std.specs.Prelude.{option_map}
use Rattle.spec_program.specs.Tree.{Expr}
use Rattle.spec_program.specs.Place as place
use Rattle.moo_tree.specs.declared.expression.Argument.{Argument}
use Rattle.moo_tree.specs.declared.expression.Argument.TheVariants.{Value, Splice}
use Rattle.tree_parts.specs.Nodes.{construct_of, holds_of}
use Rattle.tree_parts.specs.declared.parts.Part.{Part}

abbrev pub part_of : Part → place.Part
part_of p = record { tree = option_map construct_of p.tree; held = holds_of p.holds }

abbrev pub argument_expr : Argument → Expr
argument_expr (Value e) = e
argument_expr (Splice e) = e
