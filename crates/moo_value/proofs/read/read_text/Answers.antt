use Rattle.std.proofs.Common.{◌≡◌, ◌∷◌, [], ◌++◌, ◌<◌, IsFalse, string_bytes, ap, sym, ◌∙◌, arith}
use Rattle.std.proofs.lemmas.Str.Ascii.{encode_ascii}
use Rattle.spec_value.specs.Datum.{is_text}
use Rattle.spec_value.specs.Literal.{escaped}
use Rattle.moo_value.proofs.EscapedTexts.{text_on, text_end, text_goes, first_same, second_same, not_both}
use Rattle.moo_value.proofs.read.read_text.Goals as goal

pub returns-in-Some-2-clause-finds : goal.returns-in-Some-2-clause-finds
returns-in-Some-2-clause-finds c s r h e =
    let left = c.characters.invariant.left s r h e in
    let end = text_end s (string_bytes c.characters.text) left.0 r c.in-Some.more.now c.characters.rest.now c.in-Some.first left.2 left.3 c.in-Some.ensures c.if-first-eq34.true in
    let text : c.in-Some-2.text ≡ string_bytes c.characters.text = rw c.in-Some-2.is at c.in_ok-text.ensures in
    rw (text, end.0, end.1)

pub returns-in-None-clause-finds : goal.returns-in-None-clause-finds
returns-in-None-clause-finds c s r h e =
    let left = c.characters.invariant.left s r h e in
    let end = text_end s (string_bytes c.characters.text) left.0 r c.in-Some.more.now c.characters.rest.now c.in-Some.first left.2 left.3 c.in-Some.ensures c.if-first-eq34.true in
    let text : IsFalse (is_text (string_bytes c.characters.text)) = rw c.in-None.is at c.in_ok-text.ensures in
    absurd (not_both (is_text (string_bytes c.characters.text)) text (rw end.0 at h))

pub returns-then-c-ge128-clause-finds : goal.returns-then-c-ge128-clause-finds
returns-then-c-ge128-clause-finds c s r h e =
    let left = c.characters.invariant.left s r h e in
    let on = text_on left.0 r c.characters.rest.now c.in-Some.more.now c.in-Some.first left.1 left.3 c.in-Some.ensures c.if-first-eq34.false in
    let same = first_same c.in-Some-next_character.c on.c c.in-Some-next_character.after.now (escaped on.more ++ 34 ∷ r) (c.in-Some-next_character.ensures.finds ∙ on.found) in
    let small : c.in-Some-next_character.c < 128 = rw same on.small in
    absurd (omega (arith, small))

pub characters-preserved : goal.characters-preserved
characters-preserved c = record {
  shorter = omega (arith, c.in-Some-next_character.ensures.shorter, c.characters.invariant.shorter);
  left = λ s r h e.
      let left = c.characters.invariant.left s r h e in
      let on = text_on left.0 r c.characters.rest.now c.in-Some.more.now c.in-Some.first left.1 left.3 c.in-Some.ensures c.if-first-eq34.false in
      let got = c.in-Some-next_character.ensures.finds ∙ on.found in
      let same = first_same c.in-Some-next_character.c on.c c.in-Some-next_character.after.now (escaped on.more ++ 34 ∷ r) got in
      let after = second_same c.in-Some-next_character.c on.c c.in-Some-next_character.after.now (escaped on.more ++ 34 ∷ r) got in
      let goes = text_goes s (string_bytes c.characters.text) left.0 r on.c on.more left.2 on.is in
      let pushed : string_bytes c.push.new.self ≡ string_bytes c.characters.text ++ on.c ∷ [] =
      c.in_ok-push.ensures.bytes ∙ ap (λ x. string_bytes c.characters.text ++ x) (encode_ascii c.from.result (omega (arith, c.from.ensures, c.if-c-ge128.false)) ∙ ap (λ x. x ∷ []) (c.from.ensures ∙ same)) in
      (on.more, on.text, goes ∙ ap (λ x. x ++ on.more) (sym pushed), after);
}
