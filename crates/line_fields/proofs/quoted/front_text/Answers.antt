use Rattle.std.proofs.Common.{◌∷◌, ◌++◌, Some, take, ap, sym, ◌∙◌}
use Rattle.std.proofs.lemmas.List.{append-nil}
use Rattle.spec_value.specs.Literal.{escaped}
use Rattle.line_fields.proofs.Quotes.{past_at, run_text, mark_over, mark_none}
use Rattle.line_fields.proofs.ValuesTold.{plain_there}
use Rattle.line_fields.proofs.quoted.front_text.Goals as goal

pub plain_text-requires : goal.plain_text-requires
plain_text-requires c = rw (c.split_at.ensures.front, c.ordinary_end.ensures.value) (run_text c.args.bytes.now)

pub returns-in_ok-text-in-Some-None-default-clause-finds : goal.returns-in_ok-text-in-Some-None-default-clause-finds
returns-in_ok-text-in-Some-None-default-clause-finds c s r h e =
    let past = past_at s r c.args.bytes.now c.ordinary_end.result h e c.ordinary_end.ensures.value in
    let over = mark_over r _ past.left (c.split_at.ensures.back ∙ past.back) past.marked c.in-Some-None-default.field-0-0 c.in-Some-None-default.behind.now c.in-Some-None-default.ensures.finds c.in-Some-None-default.field-0-0-is in
    let all = past.is ∙ ap (λ x. take c.ordinary_end.result c.args.bytes.now ++ x) over.0 ∙ append-nil (take c.ordinary_end.result c.args.bytes.now) in
    rw (c.in_ok-text-in-Some-None-default.ensures, c.split_at.ensures.front, sym all, over.1)

pub returns-in-None-clause-finds : goal.returns-in-None-clause-finds
returns-in-None-clause-finds c s r h e =
    let past = past_at s r c.args.bytes.now c.ordinary_end.result h e c.ordinary_end.ensures.value in
    absurd (mark_none r _ past.left (c.split_at.ensures.back ∙ past.back) past.marked c.in-None.ensures.finds)

pub returns-in_ok-text-in-Some-None-default-clause-tells : goal.returns-in_ok-text-in-Some-None-default-clause-tells
returns-in_ok-text-in-Some-None-default-clause-tells c =
    let behind = c.in-Some-None-default.behind.now in
    plain_there c.args.bytes.now c.split_at.result.0.now c.split_at.result.1.now behind c.ordinary_end.result c.ordinary_end.ensures.value c.split_at.ensures.front c.split_at.ensures.back
    (sym c.in-Some-None-default.ensures.finds ∙ ap (λ o. Some (o, behind)) c.in-Some-None-default.field-0-0-is)
    ∙ ap (λ t. escaped t ++ 34 ∷ behind) (sym c.in_ok-text-in-Some-None-default.ensures)
