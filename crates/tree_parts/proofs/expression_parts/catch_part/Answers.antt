use Rattle.std.proofs.Common.{◌-◌, ◌∷◌, [], ◌++◌, sym, ◌∙◌, arith}
use Rattle.spec_program.specs.Construct.{of_expr}
use Rattle.spec_program.specs.Place.{any_list, codes_kind, part, code_parts, fallback_parts}
use Rattle.moo_tree.specs.ExpressionView.{codes_of, fallback_of}
use Rattle.tree_parts.proofs.Nth.{nth_on, nth_before, nth_behind}
use Rattle.tree_parts.proofs.expression_parts.catch_part.Goals as goal

pub returns-then-behind-count : goal.returns-then-behind-count
returns-then-behind-count c =
    let codes = code_parts (any_list ∷ []) (codes_of c.args.codes.now) in
    let rest = fallback_parts (fallback_of c.args.fallback.now) in
    let count = c.code_count-count.ensures (any_list ∷ []) in
    let on = nth_on (part (of_expr c.args.body.now) (codes_kind (codes_of c.args.codes.now) ∷ [])) (codes ++ rest) c.args.index (c.args.index - 1) (omega (arith, c.if-index-eq0.false)) in
    c.code_part.ensures ∙ sym (on ∙ nth_before codes rest (c.args.index - 1) (omega (arith, count, c.if-behind-count.true)))

pub returns-else-behind-count : goal.returns-else-behind-count
returns-else-behind-count c =
    let codes = code_parts (any_list ∷ []) (codes_of c.args.codes.now) in
    let rest = fallback_parts (fallback_of c.args.fallback.now) in
    let count = c.code_count-count.ensures (any_list ∷ []) in
    let on = nth_on (part (of_expr c.args.body.now) (codes_kind (codes_of c.args.codes.now) ∷ [])) (codes ++ rest) c.args.index (c.args.index - 1) (omega (arith, c.if-index-eq0.false)) in
    c.fallback_part.ensures ∙ sym (on ∙ nth_behind codes rest (c.args.index - 1) (c.args.index - 1 - c.code_count-count.result) (omega (arith, count, c.if-behind-count.false)))
