-- What a number that is read says, and what says none.
use Rattle.std.proofs.Common.{◌≡◌, ℕ, zero, suc, ◌+◌, ◌-◌, ◌*◌, ◌<◌, ◌≤◌, ◌^◌, min, nat_le, ◌==◌, ◌&&◌, ℤ, pos, negsuc, neg_ℤ, int_le, Bool, true, false, if◌then◌else◌, [], ◌∷◌, length, get_or, Option, Some, None, Result, Ok, IsTrue, IfSome, refl, ap, sym, subst, ◌∙◌, arith, leb-true, w32}
use Rattle.std.proofs.lemmas.Bool.{le-leb}
use Rattle.std.proofs.lemmas.Bool.Decides.{nat_tests}
use Rattle.std.proofs.lemmas.Int.{ints}
use Rattle.std.specs.List.{list_all}
use Rattle.std.specs.Char.{digit_value}
use Rattle.std.specs.Fmt.{decimal, signed_decimal, digits}
use Rattle.std.specs.Result.{OkIff}
use Rattle.std.specs.Str.Parse.{AllDigits, digits_value_after, digits_value, ParsesUnsigned, ParsesSigned}
use Rattle.std.specs.Prelude.{FitsSigned}
use Rattle.std.proofs.lemmas.Fmt.{decimal-digits_value}
use Rattle.std.proofs.lemmas.Str.Parse.{IsNumeralModel, numerals_by_value, tells_digits, parse_digits, parse_signed_minus, parse_signed_digits}
use Rattle.spec_value.specs.Datum.{Text, in_number_range}
use Rattle.spec_value.proofs.Entries.{first_holds, second_holds, both_hold}
use Rattle.spec_program.specs.Names.{is_digit}
use Rattle.spec_checkpoint.proofs.Numbers.{are_digits, small}
use Rattle.spec_faults.specs.Plain.{passes, number_of, integer_of, is_number, is_integer}
use Rattle.spec_faults.proofs.Spelling.{numbers_told, numbers_spelled, integers_told, integers_spelled}
use Rattle.line_fields.specs.Numbers.{is_over, leads, is_plain_number, behind_sign, one_digit_more, magnitude_behind}

-- ---- in a range or not

unless_none : (b : Bool) → (b ≡ true → ⊥) → b ≡ false
unless_none true h = absurd (h refl)
unless_none false h = refl

pub none_said : (least most : ℕ) (t : Text) → ((n : ℕ) → least ≤ n → n ≤ most → t ≡ decimal n → ⊥) → is_number least most t ≡ false
none_said least most t h = go (number_of t) refl
  where
    go : (o : Option ℕ) → number_of t ≡ o → passes (λ n. nat_le least n && nat_le n most) o ≡ false
    go None e = refl
    go (Some n) e =
        unless_none (nat_le least n && nat_le n most)
        (λ b. h n (leb-true least n (first_holds (nat_le least n) (nat_le n most) b)) (leb-true n most (second_holds (nat_le least n) (nat_le n most) b)) (sym (numbers_spelled t n e)))

pub some_said : (least most n : ℕ) (t : Text) → n < 2 ^ 64 → least ≤ n → n ≤ most → t ≡ decimal n → (is_number least most t ≡ true) × (number_of t ≡ Some n)
some_said least most n t small l m e =
    let said : number_of t ≡ Some n = ap number_of e ∙ numbers_told n small in
    (ap (passes (λ k. nat_le least k && nat_le k most)) said ∙ both_hold (nat_le least n) (nat_le n most) (le-leb least n l) (le-leb n most m), said)

-- ---- digits

own : IsNumeralModel (AllDigits 10) (digits_value 10)
own = numerals_by_value (AllDigits 10) tells_digits

all_digits : (t : Text) → IsTrue (are_digits t) → AllDigits 10 t
all_digits [] h = tells_digits.empty
all_digits (c ∷ t) h =
    let here = first_holds (is_digit c) (are_digits t) h in
    tells_digits.more c t (leb-true 48 c (first_holds (nat_le 48 c) (nat_le c 57) here), leb-true c 57 (second_holds (nat_le 48 c) (nat_le c 57) here)) (all_digits t (second_holds (is_digit c) (are_digits t) h))

lead_digit : (c : ℕ) → leads c ≡ true → IsTrue (is_digit c)
lead_digit c h = grind (arith, nat_tests)

pub plain_digits : (t : Text) → is_plain_number t ≡ true → IsTrue (are_digits t)
plain_digits [] h = cc
plain_digits (c ∷ t) h = go (c == 48) refl h
  where
    zero_digit : (c == 48) ≡ true → IsTrue (is_digit c)
    zero_digit e = grind (arith, nat_tests)

    over : (u : Text) → is_over u ≡ true → IsTrue (are_digits u)
    over [] e = refl
    over (d ∷ u) e = cc

    go : (b : Bool) → (c == 48) ≡ b → (if b then is_over t else (leads c && list_all is_digit t)) ≡ true → IsTrue (are_digits (c ∷ t))
    go true e k = both_hold (is_digit c) (are_digits t) (zero_digit e) (over t k)
    go false e k = both_hold (is_digit c) (are_digits t) (lead_digit c (first_holds (leads c) (are_digits t) k)) (second_holds (leads c) (are_digits t) k)

some_plain : (t : Text) → is_plain_number t ≡ true → 0 < length t
some_plain [] h = cc
some_plain (c ∷ t) h = omega arith

plain_lead : (t : Text) → is_plain_number t ≡ true → get_or t 0 0 ≡ 48 → length t ≡ 1
plain_lead [] h e = cc
plain_lead (c ∷ t) h e = over t (sym (ap (λ b. if b then is_over t else (leads c && list_all is_digit t)) (is_zero e)) ∙ h)
  where
    is_zero : c ≡ 48 → (c == 48) ≡ true
    is_zero k = grind (arith, nat_tests)

    over : (u : Text) → is_over u ≡ true → length (c ∷ u) ≡ 1
    over [] k = refl
    over (d ∷ u) k = cc

pub plain_spelled : (t : Text) → is_plain_number t ≡ true → digits_value 10 t < 2 ^ 64 → decimal (digits_value 10 t) ≡ t
plain_spelled t h small = decimal-digits_value own t (all_digits t (plain_digits t h)) (some_plain t h) (plain_lead t h) small

module _ {E : Type 0} where
  pub parsed_spelled : (t ds : Text) (r : Result ℕ E) (n : ℕ) → is_plain_number t ≡ true → ds ≡ t → ParsesUnsigned 64 10 ds r → r ≡ Ok n → (t ≡ decimal n) × (n < 2 ^ 64)
  parsed_spelled t ds r n h same parse is =
      let plain : is_plain_number ds ≡ true = ap is_plain_number same ∙ h in
      let found : OkIff {E = E} (Ok n) ((0 < length ds) × (digits_value 10 ds < 2 ^ 64)) (digits_value 10 ds) =
      subst (λ x. OkIff {E = E} x ((0 < length ds) × (digits_value 10 ds < 2 ^ 64)) (digits_value 10 ds)) is (parse_digits own 64 ds r parse (all_digits ds (plain_digits ds plain))) in
      (sym same ∙ sym (plain_spelled ds plain found.0.1) ∙ ap decimal (sym found.1), subst (λ m. m < 2 ^ 64) (sym found.1) found.0.1)

-- ---- the number that digits spell, up to the greatest of 64 bits

digit_is : (c : ℕ) → IsTrue (is_digit c) → digit_value c ≡ c - 48
digit_is c h = grind (arith, nat_tests)

saturated : (t : Text) (n m : ℕ) → IsTrue (are_digits t) → n ≡ min m (2 ^ 64 - 1) → magnitude_behind n t ≡ min (digits_value_after 10 m t) (2 ^ 64 - 1)
saturated [] n m h e = e
saturated (c ∷ t) n m h e =
    let d = digit_is c (first_holds (is_digit c) (are_digits t) h) in
    saturated t (one_digit_more n c) (m * 10 + digit_value c) (second_holds (is_digit c) (are_digits t) h) (omega (arith, e, d))

pub magnitude_spelled : (t : Text) → is_plain_number t ≡ true → magnitude_behind 0 t < 2 ^ 63 → t ≡ decimal (magnitude_behind 0 t)
magnitude_spelled t h small =
    let same = saturated t 0 0 (plain_digits t h) (omega arith) in
    let value : digits_value 10 t ≡ magnitude_behind 0 t = omega (arith, same, small) in
    sym (plain_spelled t h (omega (arith, value, small))) ∙ ap decimal value

-- ---- integers

pub integer_none : (t : Text) → ((z : ℤ) → IsTrue (in_number_range z) → t ≡ signed_decimal z → ⊥) → integer_of t ≡ None
integer_none t h = go (integer_of t) refl
  where
    go : (o : Option ℤ) → integer_of t ≡ o → integer_of t ≡ None
    go None e = e
    go (Some z) e = let s = integers_spelled t z e in absurd (h z s.range (sym s.spelled))

pub integer_some : (t : Text) (z : ℤ) → IsTrue (in_number_range z) → t ≡ signed_decimal z → integer_of t ≡ Some z
integer_some t z h e = ap integer_of e ∙ integers_told z h

-- with a minus sign before the digits
minus_spelled : (m : ℕ) (ds : Text) → decimal m ≡ ds → (45 ∷ ds ≡ 45 ∷ 48 ∷ [] → ⊥) → 45 ∷ ds ≡ signed_decimal (neg_ℤ (pos m))
unfolding digits
minus_spelled zero ds e h = absurd (h (ap (λ u. 45 ∷ u) (sym e)))
minus_spelled (suc m) ds e h = ap (λ u. 45 ∷ u) (sym e)

pub unsigned_told : (t : Text) (o : Option ℤ) (m : ℕ) → is_plain_number t ≡ true → m ≡ magnitude_behind 0 t → IfSome o (λ z. (z ≡ pos m) × (m < 2 ^ 31)) → IfSome o (λ z. (t ≡ signed_decimal z) × IsTrue (in_number_range z))
unsigned_told t None m h e s = s
unsigned_told t (Some z) m h e s =
    let small : magnitude_behind 0 t < 2 ^ 63 = subst (λ n. n < 2 ^ 63) e (omega (arith, s.1)) in
    (magnitude_spelled t h small ∙ ap decimal (sym e) ∙ ap signed_decimal (sym s.0), subst (λ y. IsTrue (in_number_range y)) (sym s.0) (in_range m s.1))
  where
    in_range : (n : ℕ) → n < 2 ^ 31 → IsTrue (in_number_range (pos n))
    in_range n l = grind (arith, nat_tests)

module _ {E : Type 0} where
  minus_told : (u ds : Text) (r : Result ℤ E) (z : ℤ) → is_plain_number u ≡ true → (45 ∷ u ≡ 45 ∷ 48 ∷ [] → ⊥) → ds ≡ 45 ∷ u → ParsesSigned w32 10 ds r → r ≡ Ok z → 45 ∷ u ≡ signed_decimal z
  minus_told u ds r z h no_zero same parse is =
      let found = parse_signed_minus own w32 (45 ∷ u) r (subst (λ t. ParsesSigned w32 10 t r) same parse) refl in
      let said : OkIff {E = E} (Ok z) (AllDigits 10 u × (0 < length u) × (digits_value 10 u ≤ 2 ^ 31)) (neg_ℤ (pos (digits_value 10 u))) =
      subst (λ x. OkIff {E = E} x (AllDigits 10 u × (0 < length u) × (digits_value 10 u ≤ 2 ^ 31)) (neg_ℤ (pos (digits_value 10 u)))) is found in
      minus_spelled (digits_value 10 u) u (plain_spelled u h (omega (arith, said.0.2))) no_zero ∙ ap signed_decimal (sym said.1)

  plus_told : (t ds : Text) (r : Result ℤ E) (z : ℤ) → is_plain_number t ≡ true → ds ≡ t → ParsesSigned w32 10 ds r → r ≡ Ok z → t ≡ signed_decimal z
  plus_told t ds r z h same parse is =
      let found = parse_signed_digits own w32 t r (subst (λ u. ParsesSigned w32 10 u r) same parse) (all_digits t (plain_digits t h)) in
      let said : OkIff {E = E} (Ok z) ((0 < length t) × (digits_value 10 t < 2 ^ 31)) (pos (digits_value 10 t)) =
      subst (λ x. OkIff {E = E} x ((0 < length t) × (digits_value 10 t < 2 ^ 31)) (pos (digits_value 10 t))) is found in
      sym (plain_spelled t h (omega (arith, said.0.1))) ∙ ap signed_decimal (sym said.1)

  pub signed_told : (t ds : Text) (r : Result ℤ E) (z : ℤ) → is_plain_number (behind_sign t) ≡ true → (t ≡ 45 ∷ 48 ∷ [] → ⊥) → ds ≡ t → ParsesSigned w32 10 ds r → r ≡ Ok z → t ≡ signed_decimal z
  signed_told [] ds r z h no_zero same parse is = cc
  signed_told (c ∷ u) ds r z h no_zero same parse is = go (c == 45) refl h
    where
      is_minus : (c == 45) ≡ true → c ≡ 45
      is_minus e = grind (arith, nat_tests)

      go : (b : Bool) → (c == 45) ≡ b → is_plain_number (if b then u else c ∷ u) ≡ true → c ∷ u ≡ signed_decimal z
      go true e k =
          let first = is_minus e in
          ap (λ d. d ∷ u) first ∙ minus_told u ds r z k (λ x. no_zero (ap (λ d. d ∷ u) first ∙ x)) (same ∙ ap (λ d. d ∷ u) first) parse is
      go false e k = plus_told (c ∷ u) ds r z k same parse is

-- ---- in a range or not

pub integer_outside : (least most : ℤ) (t : Text) → integer_of t ≡ None → is_integer least most t ≡ false
integer_outside least most t e = ap (passes (λ z. int_le least z && int_le z most)) e

pub integer_said : (least most z : ℤ) (t : Text) → integer_of t ≡ Some z → is_integer least most t ≡ (int_le least z && int_le z most)
integer_said least most z t e = ap (passes (λ y. int_le least y && int_le y most)) e

fits_range : (z : ℤ) → FitsSigned w32 z → IsTrue (in_number_range z)
fits_range (pos n) h = grind (arith, nat_tests, ints)
fits_range (negsuc n) h = grind (arith, nat_tests, ints)

module _ {E : Type 0} where
  pub parsed_fits : (ds : Text) (r : Result ℤ E) (z : ℤ) → ParsesSigned w32 10 ds r → r ≡ Ok z → FitsSigned w32 z
  parsed_fits ds r z parse is =
      let said : ParsesSigned {E = E} w32 10 ds (Ok z) = subst (λ x. ParsesSigned w32 10 ds x) is parse in subst (λ y. FitsSigned w32 y) (sym said.1) said.0.1

  pub signed_both : (t ds : Text) (r : Result ℤ E) (z : ℤ) → is_plain_number (behind_sign t) ≡ true → (t ≡ 45 ∷ 48 ∷ [] → ⊥) → ds ≡ t → ParsesSigned w32 10 ds r → r ≡ Ok z
      → (t ≡ signed_decimal z) × IsTrue (in_number_range z)
  signed_both t ds r z h no_zero same parse is = (signed_told t ds r z h no_zero same parse is, fits_range z (parsed_fits ds r z parse is))

pub integer_is : (t : Text) (o : Option ℤ) → ((z : ℤ) → IsTrue (in_number_range z) → t ≡ signed_decimal z → o ≡ Some z) → IfSome o (λ z. (t ≡ signed_decimal z) × IsTrue (in_number_range z)) → o ≡ integer_of t
integer_is t None reads tells = sym (integer_none t (λ z h e. let clash = reads z h e in cc))
integer_is t (Some z) reads tells = sym (integer_some t z tells.1 tells.0)

pub not_so : (b : Bool) (A : Type 0) → (A → IsTrue b) → b ≡ false → A → ⊥
not_so b A f e a = let t = f a in cc
