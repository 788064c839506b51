use Rattle.std.proofs.Common.{◌-◌, ◌∷◌, [], length, refl, ap, sym, ◌∙◌, arith}
use Rattle.std.proofs.lemmas.Option.{slice_get_read}
use Rattle.spec_program.specs.Construct.{of_expr}
use Rattle.spec_program.specs.Place.{part, nth, item_parts}
use Rattle.moo_tree.specs.ExpressionView.{items_of}
use Rattle.tree_parts.specs.Parts.{part_of}
use Rattle.tree_parts.proofs.Nth.{nth_before, nth_behind, items_counted, item_at}
use Rattle.tree_parts.proofs.expression_parts.scatter_part.Goals as goal

pub returns-then-index-items : goal.returns-then-index-items
returns-then-index-items c =
    let xs = c.args.items.now in
    let at = slice_get_read xs (length xs) c.args.index c.index-items-index.result refl c.if-index-items.true c.index-items-index.is in
    sym
    (nth_before (item_parts (items_of xs)) (part (of_expr c.args.value.now) [] ∷ []) c.args.index (omega (arith, items_counted xs, c.if-index-items.true))
    ∙ item_at xs c.args.index c.index-items-index.result (part_of c.item_part.result) at c.item_part.ensures)

pub returns-else-index-items : goal.returns-else-index-items
returns-else-index-items c =
    let xs = c.args.items.now in
    let m = c.args.index - length xs in
    c.sole.ensures ∙ ap (λ p. nth (p ∷ []) m) c.plain.ensures
    ∙ sym (nth_behind (item_parts (items_of xs)) (part (of_expr c.args.value.now) [] ∷ []) c.args.index m (omega (arith, items_counted xs, c.if-index-items.false)))
