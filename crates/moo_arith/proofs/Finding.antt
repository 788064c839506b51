-- The first place of a list that passes a test.
use Rattle.std.proofs.Common.{◌≡◌, ℕ, suc, ◌+◌, ◌<◌, Bool, true, false, List, length, get_or, drop, refl, ap, sym, ◌∙◌, arith, add-one, Option, Some, None, option_map, if◌then◌else◌, drop-cons}
use Rattle.std.proofs.lemmas.List.{drop_all}
use Rattle.spec_value.specs.Datum.{Datum, of_list}
use Rattle.spec_value.specs.Operators.{first_place}

-- past the first items, none of which passed
abbrev pub further : (Datum → Bool) → List Datum → ℕ → Option ℕ
further test xs i = option_map (λ k. i + k) (first_place test (of_list (drop i xs)))

chosen : (b : Bool) (o : Option ℕ) → b ≡ true → (if b then Some 0 else o) ≡ Some 0
chosen true o h = refl
chosen false o h = absurd (cc)

passed : (b : Bool) (o : Option ℕ) → b ≡ false → (if b then Some 0 else o) ≡ o
passed false o h = refl
passed true o h = absurd (cc)

counted_on : (i : ℕ) (o : Option ℕ) → option_map (λ k. i + k) (option_map suc o) ≡ option_map (λ k. (i + 1) + k) o
counted_on i None = refl
counted_on i (Some k) = ap Some (omega arith)

pub found_here : (test : Datum → Bool) (xs : List Datum) (i : ℕ) (d : Datum) → i < length xs → test (get_or xs i d) ≡ true → further test xs i ≡ Some i
found_here test xs i d h e =
    ap (λ ys. option_map (λ k. i + k) (first_place test (of_list ys))) (drop-cons xs i d h)
    ∙ ap (option_map (λ k. i + k)) (chosen (test (get_or xs i d)) (option_map suc (first_place test (of_list (drop (suc i) xs)))) e)
    ∙ ap Some (omega arith)

pub found_further : (test : Datum → Bool) (xs : List Datum) (i : ℕ) (d : Datum) → i < length xs → test (get_or xs i d) ≡ false → further test xs i ≡ further test xs (i + 1)
found_further test xs i d h e =
    ap (λ ys. option_map (λ k. i + k) (first_place test (of_list ys))) (drop-cons xs i d h)
    ∙ ap (option_map (λ k. i + k)) (passed (test (get_or xs i d)) (option_map suc (first_place test (of_list (drop (suc i) xs)))) e)
    ∙ counted_on i (first_place test (of_list (drop (suc i) xs)))
    ∙ ap (λ j. option_map (λ k. (i + 1) + k) (first_place test (of_list (drop j xs)))) (sym (add-one i))

pub found_nowhere : (test : Datum → Bool) (xs : List Datum) (i : ℕ) → length xs ≡ i → further test xs i ≡ None
found_nowhere test xs i h = ap (λ ys. option_map (λ k. i + k) (first_place test (of_list ys))) (drop_all i xs (omega arith))

from_start : (o : Option ℕ) → option_map (λ k. 0 + k) o ≡ o
from_start None = refl
from_start (Some k) = ap Some (omega arith)

pub found_first : (test : Datum → Bool) (xs : List Datum) → further test xs 0 ≡ first_place test (of_list xs)
found_first test xs = from_start (first_place test (of_list xs))
