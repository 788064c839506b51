use Rattle.std.proofs.Common.{◌++◌, ◌∷◌, [], Some, None, subst, sym, ap, ◌∙◌, IsTrue, arith}
use Rattle.spec_value.specs.Datum.{is_text}
use Rattle.spec_value.specs.Literal.{escaped}
use Rattle.line_fields.proofs.ValuesTold.{mark_further, character_further, closed_told}
use Rattle.line_fields.proofs.Quotes.{past_at, mark_over, mark_on, mark_none, goes_on, is_over}
use Rattle.line_fields.proofs.quoted.escaped_text.Goals as goal

pub runs-preserved : goal.runs-preserved
runs-preserved c = record {
  shorter = omega (arith, c.in-Some-Some-default.ensures.shorter, c.split_at.ensures.back_len, c.runs.invariant.shorter);
  left = λ s r h e.
      let left = c.runs.invariant.left s r h e in
      let past = past_at left.0 r c.runs.rest.now c.ordinary_end.result left.1 left.3 c.ordinary_end.ensures.value in
      let on = mark_on r _ past.left (c.split_at.ensures.back ∙ past.back) past.marked past.text c.in-Some-Some-default.field-0-0 c.in-Some-Some-default.character c.in-Some-Some-default.behind.now c.in-Some-Some-default.ensures.finds c.in-Some-Some-default.field-0-0-is in
      let front = ap (λ x. c.runs.characters.items ++ x) c.split_at.ensures.front in
      let pushed = c.in_ok-push-in-Some-Some-default.ensures.items ∙ ap (λ x. x ++ c.in-Some-Some-default.character ∷ []) (c.in_ok-extend_from_slice.ensures.items ∙ front) in
      (on.0, on.1, goes_on s c.runs.characters.items left.0 _ past.left on.0 c.in-Some-Some-default.character left.2 past.is on.2 ∙ ap (λ x. x ++ on.0) (sym pushed), on.3);
  told =
      let behind = c.in-Some-Some-default.behind.now in
      let character = c.in-Some-Some-default.character in
      let pushed = c.in_ok-push-in-Some-Some-default.ensures.items ∙ ap (λ x. x ++ character ∷ []) c.in_ok-extend_from_slice.ensures.items in
      let further = mark_further c.args.bytes.now c.runs.characters.items c.runs.rest.now c.split_at.result.0.now c.split_at.result.1.now behind c.ordinary_end.result (Some character) c.runs.invariant.told
      c.ordinary_end.ensures.value c.split_at.ensures.front c.split_at.ensures.back (sym c.in-Some-Some-default.ensures.finds ∙ ap (λ o. Some (o, behind)) c.in-Some-Some-default.field-0-0-is) in
      character_further c.args.bytes.now (c.runs.characters.items ++ c.split_at.result.0.now) behind character further ∙ ap (λ x. escaped x ++ behind) (sym pushed);
}

pub returns-in-Some-None-default-clause-finds : goal.returns-in-Some-None-default-clause-finds
returns-in-Some-None-default-clause-finds c s r h e =
    let left = c.runs.invariant.left s r h e in
    let past = past_at left.0 r c.runs.rest.now c.ordinary_end.result left.1 left.3 c.ordinary_end.ensures.value in
    let over = mark_over r _ past.left (c.split_at.ensures.back ∙ past.back) past.marked c.in-Some-None-default.field-0-0 c.in-Some-None-default.behind.now c.in-Some-None-default.ensures.finds c.in-Some-None-default.field-0-0-is in
    let front = ap (λ x. c.runs.characters.items ++ x) c.split_at.ensures.front in
    let all = is_over s c.runs.characters.items left.0 _ past.left left.2 past.is over.0 ∙ sym (c.deref.ensures.value ∙ c.in_ok-extend_from_slice.ensures.items ∙ front) in
    rw (all, sym over.1) (c.in_ok-found-in-Some-None-default.ensures.finds (subst (λ x. IsTrue (is_text x)) all h))

pub returns-in-None-clause-finds : goal.returns-in-None-clause-finds
returns-in-None-clause-finds c s r h e =
    let left = c.runs.invariant.left s r h e in
    let past = past_at left.0 r c.runs.rest.now c.ordinary_end.result left.1 left.3 c.ordinary_end.ensures.value in
    absurd (mark_none r _ past.left (c.split_at.ensures.back ∙ past.back) past.marked c.in-None.ensures.finds)

pub returns-in-Some-None-default-clause-tells : goal.returns-in-Some-None-default-clause-tells
returns-in-Some-None-default-clause-tells c =
    let behind = c.in-Some-None-default.behind.now in
    let further = mark_further c.args.bytes.now c.runs.characters.items c.runs.rest.now c.split_at.result.0.now c.split_at.result.1.now behind c.ordinary_end.result None c.runs.invariant.told
    c.ordinary_end.ensures.value c.split_at.ensures.front c.split_at.ensures.back (sym c.in-Some-None-default.ensures.finds ∙ ap (λ o. Some (o, behind)) c.in-Some-None-default.field-0-0-is) in
    closed_told c.args.bytes.now c.deref.result.now behind c.in_ok-found-in-Some-None-default.found c.in_ok-found-in-Some-None-default.ensures.tells
    (further ∙ ap (λ x. escaped x ++ 34 ∷ behind) (sym (c.deref.ensures.value ∙ c.in_ok-extend_from_slice.ensures.items)))
