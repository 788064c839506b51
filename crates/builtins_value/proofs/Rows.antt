-- Steps of the functions of values.
use Rattle.std.proofs.Common.{◌≡◌, ℕ, ◌+◌, ◌<◌, List, [], ◌∷◌, ◌++◌, length, get_or, drop, refl, ap, sym, ◌∙◌, arith, add-one, ℤ, pos, negsuc, drop-cons, Option, Some, None, min, ◌*◌, ◌^◌, ◌-◌, option_map, Bool, true, false, if◌then◌else◌}
use lib.Signed.{◌<ℤ◌, ◌≤ℤ◌}
use Rattle.std.proofs.lemmas.Int.{ints}
use Rattle.spec_value.specs.Operators.{negation}
use Rattle.spec_value.specs.Datum.{Datum, integer}
use Rattle.spec_value.specs.Literal.{to_text}
use Rattle.spec_value.specs.Operators.{unary_value}
use Rattle.spec_value.specs.PureBuiltins.{joined_texts, absolute, digits_value, is_digit, all_spaces}

pub joined_on : (xs : List Datum) (i : ℕ) (d : Datum) → i < length xs → joined_texts (drop i xs) ≡ to_text (get_or xs i d) ++ joined_texts (drop (i + 1) xs)
joined_on xs i d h = ap joined_texts (drop-cons xs i d h) ∙ ap (λ k. to_text (get_or xs i d) ++ joined_texts (drop k xs)) (sym (add-one i))

pub absolute_below : (z : ℤ) → z <ℤ pos 0 → unary_value negation (integer z) ≡ absolute (integer z)
absolute_below (pos n) h = absurd (omega (arith, ints))
absolute_below (negsuc n) h = refl

pub absolute_above : (z : ℤ) → pos 0 ≤ℤ z → integer z ≡ integer z
absolute_above z h = refl

-- ---- numbers that are too great

abbrev pub capped : Option ℕ → Option ℕ
capped o = option_map (λ n. min n (2 ^ 32)) o

same_choice : (b : Bool) (x y z w : Option ℕ) → x ≡ z → y ≡ w → (if b then x else y) ≡ (if b then z else w)
same_choice true x y z w e f = e
same_choice false x y z w e f = f

choice_capped : (b : Bool) (x y : Option ℕ) → capped (if b then x else y) ≡ (if b then capped x else capped y)
choice_capped true x y = refl
choice_capped false x y = refl

pub capped_digits : (t : List ℕ) (a b : ℕ) → min a (2 ^ 32) ≡ min b (2 ^ 32) → capped (digits_value a t) ≡ capped (digits_value b t)
capped_digits [] a b e = ap Some e
capped_digits (c ∷ t) a b e =
    choice_capped (is_digit c) (digits_value (a * 10 + (c - 48)) t) (if all_spaces (c ∷ t) then Some a else None)
    ∙ same_choice (is_digit c) (capped (digits_value (a * 10 + (c - 48)) t)) (capped (if all_spaces (c ∷ t) then Some a else None)) (capped (digits_value (b * 10 + (c - 48)) t)) (capped (if all_spaces (c ∷ t) then Some b else None))
    (capped_digits t (a * 10 + (c - 48)) (b * 10 + (c - 48)) (omega arith))
    (choice_capped (all_spaces (c ∷ t)) (Some a) None ∙ same_choice (all_spaces (c ∷ t)) (Some (min a (2 ^ 32))) None (Some (min b (2 ^ 32))) None (ap Some e) refl ∙ sym (choice_capped (all_spaces (c ∷ t)) (Some b) None))
    ∙ sym (choice_capped (is_digit c) (digits_value (b * 10 + (c - 48)) t) (if all_spaces (c ∷ t) then Some b else None))

pub digits_on : (rest more whole : List ℕ) (c n m : ℕ) → rest ≡ c ∷ more → is_digit c ≡ true → m ≡ min (n * 10 + (c - 48)) (2 ^ 32) → capped (digits_value n rest) ≡ capped (digits_value 0 whole) → capped (digits_value m more) ≡ capped (digits_value 0 whole)
digits_on rest more whole c n m e d is h =
    capped_digits more m (n * 10 + (c - 48)) (omega arith)
    ∙ sym (ap (λ b. capped (if b then digits_value (n * 10 + (c - 48)) more else (if all_spaces (c ∷ more) then Some n else None))) d)
    ∙ sym (ap (λ t. capped (digits_value n t)) e)
    ∙ h
