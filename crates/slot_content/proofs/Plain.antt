-- Texts in which no backslash is to stand.
use Rattle.std.proofs.Common.{◌≡◌, ℕ, suc, ◌<◌, ◌≤◌, ◌+◌, List, [], ◌∷◌, ◌++◌, length, drop, get_or, sym, ap, ◌∙◌, arith, add-one}
use Rattle.std.proofs.Math.Seq.{drop-cons}
use Rattle.std.proofs.lemmas.List.{drop_all}
use Rattle.std.proofs.lemmas.Bool.Decides.{nat_tests}
use Rattle.spec_value.specs.Literal.{escape, escaped}

plain_byte : (c : ℕ) → (c ≡ 34 → ⊥) → (c ≡ 92 → ⊥) → escape c ≡ c ∷ []
plain_byte c h k = grind (arith, nat_tests)

next_plain : (bs : List ℕ) (i : ℕ) → i < length bs → (get_or bs i 0 ≡ 34 → ⊥) → (get_or bs i 0 ≡ 92 → ⊥)
    → (escaped (drop i bs) ≡ drop i bs → escaped bs ≡ bs) → escaped (drop (suc i) bs) ≡ drop (suc i) bs → escaped bs ≡ bs
next_plain bs i inside h k so_far rest =
    so_far
    (ap escaped (drop-cons bs i 0 inside) ∙ ap (λ cs. cs ++ escaped (drop (suc i) bs)) (plain_byte (get_or bs i 0) h k)
    ∙ ap (λ cs. get_or bs i 0 ∷ cs) rest ∙ sym (drop-cons bs i 0 inside))

-- the bytes so far are written as they are, if those that are left are
pub plain_so_far : (bs : List ℕ) (i : ℕ) → i < length bs → (get_or bs i 0 ≡ 34 → ⊥) → (get_or bs i 0 ≡ 92 → ⊥)
    → (escaped (drop i bs) ≡ drop i bs → escaped bs ≡ bs) → escaped (drop (i + 1) bs) ≡ drop (i + 1) bs → escaped bs ≡ bs
plain_so_far bs i inside h k so_far = rw add-one (next_plain bs i inside h k so_far)

pub all_plain : (bs : List ℕ) (i : ℕ) → length bs ≤ i → (escaped (drop i bs) ≡ drop i bs → escaped bs ≡ bs) → escaped bs ≡ bs
all_plain bs i past so_far = so_far (ap escaped (drop_all i bs past) ∙ sym (drop_all i bs past))
