use Rattle.std.proofs.Common.{◌+◌, ◌-◌, ◌∷◌, [], ◌++◌, Some, length, take, drop, refl, sym, ap, ◌∙◌, arith}
use Rattle.std.proofs.lemmas.Option.{slice_get_read}
use Rattle.spec_program.specs.Construct.{of_program}
use Rattle.spec_program.specs.Place.{any_list, part, nth, arm_kinds, arm_parts}
use Rattle.moo_tree.specs.StatementView.{program_of, arms_of}
use Rattle.tree_parts.proofs.Nth.{arm_code, arm_body, arm_on, kinds_more, arms_from}
use Rattle.tree_parts.proofs.statement_parts.arm_part.Goals as goal

pub returns-then-left-count : goal.returns-then-left-count
returns-then-left-count c =
    let arms = c.args.arms.now in
    let i = c.loop-i.i in
    let a = c.index-arms-i.result in
    let before = arm_kinds (arms_of (take i arms)) in
    let at = slice_get_read arms (length arms) i a refl c.loop-i-test.true c.index-arms-i.is in
    let from = arms_from arms i (i + 1) a at (omega arith) in
    let count = c.code_count-count.ensures (before ++ any_list ∷ []) in
    c.code_part.ensures
    ∙ sym
    (c.loop-i.invariant ∙ ap (λ more. nth (arm_parts before (arms_of more)) c.loop-i.left) from
    ∙ arm_code before a (drop (i + 1) arms) c.loop-i.left (omega (arith, count, c.if-left-count.true)))

pub returns-then-left-count-2 : goal.returns-then-left-count-2
returns-then-left-count-2 c =
    let arms = c.args.arms.now in
    let i = c.loop-i.i in
    let a = c.index-arms-i.result in
    let before = arm_kinds (arms_of (take i arms)) in
    let at = slice_get_read arms (length arms) i a refl c.loop-i-test.true c.index-arms-i.is in
    let from = arms_from arms i (i + 1) a at (omega arith) in
    let count = c.code_count-count.ensures (before ++ any_list ∷ []) in
    ap Some (c.alone.ensures ∙ ap (λ ss. part (of_program (program_of ss)) []) c.deref.ensures.value)
    ∙ sym
    (c.loop-i.invariant ∙ ap (λ more. nth (arm_parts before (arms_of more)) c.loop-i.left) from
    ∙ arm_body before a (drop (i + 1) arms) c.loop-i.left (omega (arith, count, c.if-left-count-2.true)))

pub loop-i-preserved : goal.loop-i-preserved
loop-i-preserved c =
    let arms = c.args.arms.now in
    let i = c.loop-i.i in
    let a = c.index-arms-i.result in
    let before = arm_kinds (arms_of (take i arms)) in
    let at = slice_get_read arms (length arms) i a refl c.loop-i-test.true c.index-arms-i.is in
    let from = arms_from arms i (i + 1) a at (omega arith) in
    let count = c.code_count-count.ensures (before ++ any_list ∷ []) in
    let m = c.loop-i.left - (c.code_count-count.result + 1) in
    c.loop-i.invariant ∙ ap (λ more. nth (arm_parts before (arms_of more)) c.loop-i.left) from
    ∙ arm_on before a (drop (i + 1) arms) c.loop-i.left m (omega (arith, count, c.if-left-count.false, c.if-left-count-2.false))
    ∙ ap (λ ks. nth (arm_parts ks (arms_of (drop (i + 1) arms))) m) (sym (kinds_more arms i (i + 1) a at (omega arith)))
