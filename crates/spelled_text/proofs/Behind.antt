-- What stands behind a line and its line feed.
use Rattle.std.proofs.Common.{arith, ◌≡◌, ◌≢◌, ◌↔◌, ◌+◌, ◌<◌, ◌++◌, ◌∷◌, ℕ, suc, List, Option, Some, None, MatchOption, get_or, length, drop, Bor, ap, sym, ◌∙◌}
use Rattle.std.proofs.Math.Seq.{drop-append_seam, drop-cons}
use Rattle.spec_value.specs.Datum.{Text}
use Rattle.spec_program.specs.ReadPrograms.{joined_lines}

-- nothing else stands behind the same
same_behind : (p a b : List ℕ) → p ++ a ≡ p ++ b → a ≡ b
same_behind p a b e = sym (drop-append_seam p a) ∙ ap (drop (length p)) e ∙ drop-append_seam p b

pub behind_is : (s p b : List ℕ) (o : Option (Bor (List ℕ))) → s ≡ p ++ b → MatchOption o ((r : List ℕ) → b ≢ 10 ∷ r) (λ x. b ≡ 10 ∷ x.now)
    → MatchOption o ((r : List ℕ) → s ≢ p ++ 10 ∷ r) (λ x. s ≡ p ++ 10 ∷ x.now)
behind_is s p b None e h = λ r f. h r (same_behind p b (10 ∷ r) (sym e ∙ f))
behind_is s p b (Some x) e h = e ∙ ap (λ t. p ++ t) h

-- one line more
pub one_on : (text rest behind : Text) (ts : List Text) (i : ℕ) (t : Text) → i < length ts → t ≡ get_or ts i t → rest ≡ t ++ 10 ∷ behind
    → text ≡ joined_lines ts ↔ rest ≡ joined_lines (drop i ts) → text ≡ joined_lines ts ↔ behind ≡ joined_lines (drop (i + 1) ts)
one_on text rest behind ts i t within at is h =
    let one : suc i ≡ i + 1 = omega arith in
    let front : joined_lines (drop i ts) ≡ t ++ 10 ∷ joined_lines (drop (i + 1) ts)
    = ap joined_lines (drop-cons ts i t within ∙ ap (λ n. get_or ts i t ∷ drop n ts) one) ∙ ap (λ x. x ++ 10 ∷ joined_lines (drop (i + 1) ts)) (sym at) in (
      λ e. ap (drop 1) (same_behind t (10 ∷ behind) (10 ∷ joined_lines (drop (i + 1) ts)) (sym is ∙ h.0 e ∙ front)),
      λ e. h.1 (is ∙ ap (λ b. t ++ 10 ∷ b) e ∙ sym front),
    )
