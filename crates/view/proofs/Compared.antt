-- How a text with its case ignored compares with another, from an index on.
use Rattle.std.proofs.Common.{◌≡◌, ℕ, zero, suc, ◌+◌, ◌<◌, [], ◌∷◌, length, refl, sym, ◌∙◌, ap, add-one, arith, get_or, drop}
use Rattle.std.specs.Char.{to_ascii_lowercase}
use Rattle.std.specs.Ordering.{nat_cmp, ordering_then}
use Rattle.std.specs.declared.cmp.Ordering.{Ordering}
use Rattle.std.specs.declared.cmp.Ordering.TheVariants.{Less, Equal, Greater}
use Rattle.spec_value.specs.Datum.{Text, fold_case}
use Rattle.view.proofs.Named.{R}

-- the rests from an index on
abbrev pub rests : Text → Text → ℕ → Ordering
rests s t i = R (fold_case (drop i s)) (drop i t)

one_on : (s t : Text) (i : ℕ) → i < length s → i < length t → rests s t i ≡ ordering_then (nat_cmp (to_ascii_lowercase (get_or s i 0)) (get_or t i 0)) (rests s t (suc i))
one_on [] t i p q = absurd (omega arith)
one_on (c ∷ s) [] i p q = absurd (omega arith)
one_on (c ∷ s) (d ∷ t) zero p q = refl
one_on (c ∷ s) (d ∷ t) (suc i) p q = one_on s t i (omega arith) (omega arith)

-- the characters there decide, or else the rests behind them
pub decided : (s t : Text) (i : ℕ) (r : Ordering) → i < length s → i < length t → nat_cmp (to_ascii_lowercase (get_or s i 0)) (get_or t i 0) ≡ r
    → rests s t i ≡ ordering_then r (rests s t (i + 1))
decided s t i r p q is =
    one_on s t i p q ∙ ap (λ o. ordering_then o (rests s t (suc i))) is ∙ ap (λ n. ordering_then r (rests s t n)) (sym (add-one i))

pub longer : (s t : Text) → length t < length s → rests s t (length t) ≡ Greater
longer [] t lt = absurd (omega arith)
longer (c ∷ s) [] lt = refl
longer (c ∷ s) (d ∷ t) lt = longer s t (omega arith)

pub as_long : (s t : Text) → length s ≡ length t → rests s t (length s) ≡ Equal
as_long [] [] e = refl
as_long [] (d ∷ t) e = absurd (omega arith)
as_long (c ∷ s) [] e = absurd (omega arith)
as_long (c ∷ s) (d ∷ t) e = as_long s t (omega arith)

pub shorter : (s t : Text) → length s < length t → rests s t (length s) ≡ Less
shorter s [] lt = absurd (omega arith)
shorter [] (d ∷ t) lt = refl
shorter (c ∷ s) (d ∷ t) lt = shorter s t (omega arith)
