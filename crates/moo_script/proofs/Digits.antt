-- Digits, read one behind the other.
use Rattle.std.proofs.Common.{◌≡◌, ℕ, ◌+◌, ◌-◌, ◌*◌, ◌<◌, ◌≤◌, min, Bool, true, false, cond, ◌&&◌, IsTrue, IsFalse, List, [], ◌∷◌, length, get_or, drop, Option, Some, None, unwrap_or, refl, sym, ap, ◌∙◌, arith, drop_of_length-le}
use Rattle.std.specs.List.{list_all}
use Rattle.std.specs.Char.{is_ascii_digit, digit_value}
use Rattle.std.specs.Str.Parse.{digits_value_after}
use Rattle.std.proofs.lemmas.Bool.Decides.{nat_tests}
use Rattle.std.proofs.lemmas.List.{at_drop_more}
use Rattle.moo_script.specs.Numbers.{number_value}

abbrev most : ℕ
most = 4294967295

-- the sum with a digit more
abbrev pub with_digit : ℕ → ℕ → ℕ
with_digit n d = min (min (n * 10) 4294967295 + (d - 48)) 4294967295

-- the sum that goes on over these bytes, none at one that is no digit
abbrev pub sum_on : ℕ → List ℕ → Option ℕ
sum_on n [] = Some n
sum_on n (d ∷ ds) = cond (is_ascii_digit d) (sum_on (with_digit n d) ds) None

digit_is : (d : ℕ) → is_ascii_digit d ≡ true → digit_value d ≡ d - 48
digit_is d h = grind (arith, nat_tests)

with_digit_is : (n d : ℕ) → is_ascii_digit d ≡ true → with_digit (min n most) d ≡ min (n * 10 + digit_value d) most
with_digit_is n d h = rw (digit_is d h) (omega arith)

sum_is : (n : ℕ) (ds : List ℕ) → sum_on (min n most) ds ≡ cond (list_all is_ascii_digit ds) (Some (min (digits_value_after 10 n ds) most)) None
sum_is n [] = refl
sum_is n (d ∷ ds) =
    elim (is_ascii_digit d) as (λ b. is_ascii_digit d ≡ b → cond b (sum_on (with_digit (min n most) d) ds) None ≡ cond (b && list_all is_ascii_digit ds) (Some (min (digits_value_after 10 (n * 10 + digit_value d) ds) most)) None) [
      | true ↦ λ h. ap (λ s. sum_on s ds) (with_digit_is n d h) ∙ sum_is (n * 10 + digit_value d) ds
      | false ↦ λ h. refl
    ] refl

picked : (b : Bool) (v n : ℕ) → cond b (Some v) None ≡ Some n → IsTrue b × (n ≡ v)
picked true v n h = (refl, sym (ap (λ o. unwrap_or o v) h))
picked false v n h = cc

none_picked : (b : Bool) (v : ℕ) → cond b (Some v) None ≡ None → IsFalse b
none_picked true v h = cc
none_picked false v h = refl

-- a sum that went to the end, and one that did not
spelled : (ds : List ℕ) (n : ℕ) → Some n ≡ sum_on 0 ds → IsTrue (list_all is_ascii_digit ds) × (n ≡ number_value ds)
spelled ds n e = picked _ _ _ (sym (sum_is 0 ds) ∙ sym e)

pub ended : (ds : List ℕ) (i n : ℕ) → length ds ≤ i → sum_on n (drop i ds) ≡ sum_on 0 ds → IsTrue (list_all is_ascii_digit ds) × (n ≡ number_value ds)
ended ds i n l e = spelled ds n (ap (sum_on n) (sym (drop_of_length-le ds l)) ∙ e)

pub not_spelled : (ds : List ℕ) → None ≡ sum_on 0 ds → IsFalse (list_all is_ascii_digit ds)
not_spelled ds e = none_picked _ _ (sym (sum_is 0 ds) ∙ sym e)

-- one byte more
pub goes_on : (ds : List ℕ) (i n : ℕ) → i < length ds → is_ascii_digit (get_or ds i 0) ≡ true → sum_on n (drop i ds) ≡ sum_on (with_digit n (get_or ds i 0)) (drop (i + 1) ds)
goes_on ds i n l h = at_drop_more (sum_on n) ds i 0 l ∙ ap (λ b. cond b (sum_on (with_digit n (get_or ds i 0)) (drop (i + 1) ds)) None) h

pub stops : (ds : List ℕ) (i n : ℕ) → i < length ds → is_ascii_digit (get_or ds i 0) ≡ false → sum_on n (drop i ds) ≡ None
stops ds i n l h = at_drop_more (sum_on n) ds i 0 l ∙ ap (λ b. cond b (sum_on (with_digit n (get_or ds i 0)) (drop (i + 1) ds)) None) h
