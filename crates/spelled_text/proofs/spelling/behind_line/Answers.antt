use Rattle.std.proofs.Common.{◌≡◌, ◌∷◌, ◌++◌, ◌∙◌, IsTrue, length, take, ap, sym, subst}
use Rattle.std.proofs.Math.Seq.{take-append_seam}
use Rattle.std.proofs.lemmas.List.{take-append-drop}
use Rattle.spec_value.specs.Datum.{same_text}
use Rattle.spec_value.proofs.Same.{same_texts, text_itself}
use Rattle.spelled_text.proofs.Behind.{behind_is}
use Rattle.spelled_text.proofs.spelling.behind_line.Goals as goal

pub returns-in_default : goal.returns-in_default
returns-in_default c = λ r e.
    let front : take (length c.args.line.now) c.args.text.now ≡ c.args.line.now = ap (take (length c.args.line.now)) e ∙ take-append_seam c.args.line.now (10 ∷ r) in
    let same : IsTrue (same_text (take (length c.args.line.now) c.args.text.now) c.args.line.now)
    = subst (λ t. IsTrue (same_text t c.args.line.now)) (sym front) (text_itself c.args.line.now) in
    absurd (cc (same, c.in_default.ensures.cases))

pub returns : goal.returns
returns c =
    let front = same_texts (take (length c.args.line.now) c.args.text.now) c.args.line.now c.in-Some.ensures.cases.0 in
    let whole = sym (take-append-drop (length c.args.line.now) c.args.text.now) ∙ (λ i. front i ++ sym c.in-Some.ensures.cases.1 i) in
    behind_is c.args.text.now c.args.line.now c.in-Some.behind.now c.behind_feed.result whole c.behind_feed.ensures
