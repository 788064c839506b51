use Rattle.std.proofs.Common.{◌≡◌, sym, ◌∙◌, ap}
use Rattle.spec_value.specs.Literal.{literal}
use Rattle.moo_value.proofs.Reading.{none_found, rest_found, not_empty, texts_differ}
use Rattle.moo_value.proofs.read.from_literal.Goals as goal

pub returns-in_default : goal.returns-in_default
returns-in_default c d h w e =
    none_found d c.as_bytes.result.now _ h w (c.as_bytes.ensures.value ∙ sym e) (rw c.in_default.is at c.in_ok-value.ensures.finds)

pub returns-then-not-is_empty : goal.returns-then-not-is_empty
returns-then-not-is_empty c d h w e =
    let f = rw c.in-Some.is at c.in_ok-value.ensures.finds in
    let all = rest_found d c.in-Some.value c.as_bytes.result.now c.in-Some.rest _ h w (c.as_bytes.ensures.value ∙ sym e) f in
    not_empty c.in-Some.rest.now c.is_empty.result c.is_empty.ensures all.1 c.if-not-is_empty.true

pub returns-else-eq : goal.returns-else-eq
returns-else-eq c d h w e =
    let f = rw c.in-Some.is at c.in_ok-value.ensures.finds in
    let all = rest_found d c.in-Some.value c.as_bytes.result.now c.in-Some.rest _ h w (c.as_bytes.ensures.value ∙ sym e) f in
    let same : c.as_str.result.now ≡ c.args.text.now = c.as_str.ensures.value ∙ c.in_ok-again.ensures ∙ ap literal all.0 ∙ e in
    texts_differ c.as_str.result.now c.args.text.now (sym c.eq.ensures ∙ c.if-eq.false) same
