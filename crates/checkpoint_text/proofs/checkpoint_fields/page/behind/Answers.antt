use Rattle.std.proofs.Common.{◌≡◌, ◌++◌, Option, Some, None, MatchOption, true, false, ◌+◌, length, take, drop, Bor, ap, sym, ◌∙◌}
use Rattle.std.proofs.Math.Seq.{take-append_seam}
use Rattle.std.proofs.lemmas.List.{take-append-drop}
use Rattle.spec_value.specs.Datum.{Text, same_text}
use Rattle.spec_value.proofs.Same.{same_texts, text_itself}
use Rattle.checkpoint_text.specs.Behind.{BeginsOtherwise}
use Rattle.checkpoint_text.proofs.checkpoint_fields.page.behind.Goals as goal

stripped : (s p : Text) (o : Option (Bor Text))
    → MatchOption o (same_text (take (length p) s) p ≡ false) (λ x. (same_text (take (length p) s) p ≡ true) × (x.now ≡ drop (length p) s) × (length x.now + length p ≡ length s))
    → MatchOption o (BeginsOtherwise p s) (λ x. s ≡ p ++ x.now)
stripped s p None h = λ rest e.
    let front : take (length p) s ≡ p = ap (take (length p)) e ∙ take-append_seam p rest in
    let same : same_text (take (length p) s) p ≡ true = ap (λ t. same_text t p) front ∙ text_itself p in
    absurd (cc (same, h))
stripped s p (Some x) h =
    sym (take-append-drop (length p) s) ∙ ap (λ f. f ++ drop (length p) s) (same_texts (take (length p) s) p h.0) ∙ ap (λ r. p ++ r) (sym h.1)

pub returns : goal.returns
returns c = stripped c.args.bytes.now c.args.front.now c.strip_prefix.result c.strip_prefix.ensures.cases
