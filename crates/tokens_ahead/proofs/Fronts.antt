-- What stands behind characters with which a text begins.
use Rattle.std.proofs.Common.{◌≡◌, ◌++◌, List, Option, Some, None, IfSome, MatchOption, true, false, ◌+◌, length, take, drop, Bor, ap, sym, ◌∙◌, ℕ}
use Rattle.std.proofs.lemmas.List.{take-append-drop}
use Rattle.spec_value.specs.Datum.{Text, same_text}
use Rattle.spec_value.proofs.Same.{same_texts}

pub behind_is : (s p : Text) (o : Option (Bor (List ℕ)))
    → MatchOption o (same_text (take (length p) s) p ≡ false) (λ x. (same_text (take (length p) s) p ≡ true) × (x.now ≡ drop (length p) s) × (length x.now + length p ≡ length s))
    → IfSome o (λ x. s ≡ p ++ x.now)
behind_is s p None h = tt
behind_is s p (Some x) h =
    sym (take-append-drop (length p) s) ∙ ap (λ f. f ++ drop (length p) s) (same_texts (take (length p) s) p h.0) ∙ ap (λ r. p ++ r) (sym h.1)
