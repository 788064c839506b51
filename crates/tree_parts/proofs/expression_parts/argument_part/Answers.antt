use Rattle.std.proofs.Common.{Some, length, refl, sym, ap, ◌∙◌, arith}
use Rattle.std.proofs.lemmas.Option.{slice_get_read}
use Rattle.spec_program.specs.Construct.{of_expr}
use Rattle.spec_program.specs.Place.{part, argument_parts}
use Rattle.moo_tree.specs.ExpressionView.{arguments_of}
use Rattle.tree_parts.specs.Nodes.{kinds_of}
use Rattle.tree_parts.proofs.Nth.{nth_past, arguments_counted, argument_at}
use Rattle.tree_parts.proofs.expression_parts.argument_part.Goals as goal

pub returns-then-index-arguments : goal.returns-then-index-arguments
returns-then-index-arguments c =
    let es = c.args.arguments.now in
    let at = slice_get_read es (length es) c.args.index c.index-arguments-index.result refl c.if-index-arguments.true c.index-arguments-index.is in
    ap Some (c.beside.ensures ∙ ap (λ e. part (of_expr e) (kinds_of c.args.values)) c.argument_expression-expression.ensures)
    ∙ sym (argument_at (kinds_of c.args.values) es c.args.index c.index-arguments-index.result at)

pub returns-else-index-arguments : goal.returns-else-index-arguments
returns-else-index-arguments c =
    let count = arguments_counted (kinds_of c.args.values) c.args.arguments.now in
    sym (nth_past (argument_parts (kinds_of c.args.values) (arguments_of c.args.arguments.now)) c.args.index (omega (arith, count, c.if-index-arguments.false)))
