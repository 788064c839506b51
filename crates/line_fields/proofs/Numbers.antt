-- Numbers are spelled without needless zeros.
use Rattle.std.proofs.Common.{◌≡◌, ℕ, zero, suc, ◌+◌, ◌<◌, ◌/◌, ◌%◌, ◌^◌, pos, negsuc, ℤ, [], ◌∷◌, ◌++◌, IsTrue, Bool, true, false, ◌==◌, ◌&&◌, if◌then◌else◌, refl, ap, subst, ◌∙◌, arith}
use Rattle.std.proofs.lemmas.Bool.Decides.{nat_tests}
use Rattle.std.specs.Fmt.{decimal, signed_decimal, digits}
use Rattle.std.proofs.lemmas.Fmt.{decimal_by_steps}
use Rattle.spec_value.specs.Datum.{Text, in_number_range}
use Rattle.spec_checkpoint.proofs.Numbers.{are_digits, decimal_digits, small}
use Rattle.spec_value.proofs.Entries.{second_holds}
use Rattle.spec_program.specs.Names.{is_digit}
use Rattle.line_fields.specs.Numbers.{is_over, leads, is_plain_number, is_signed, behind_sign, one_digit_more, magnitude_behind}

abbrev pub leading : Text → Bool
leading [] = false
leading (c ∷ t) = leads c

leads_more : (ds u : Text) → IsTrue (leading ds) → IsTrue (leading (ds ++ u))
leads_more [] u h = cc
leads_more (c ∷ ds) u h = h

one_leads : (n : ℕ) → n < 10 → 0 < n → IsTrue (leads (48 + n))
one_leads n h p = grind (arith, nat_tests)

pub decimal_leads : (n : ℕ) → n < 2 ^ 64 → 0 < n → IsTrue (leading (decimal n))
decimal_leads = decimal_by_steps (λ n ds. 0 < n → IsTrue (leading ds)) (λ n h p. one_leads n h p) (λ n ds le before p. leads_more ds ((48 + n % 10) ∷ []) (before (omega arith)))

plain_head : (c : ℕ) (over all : Bool) → IsTrue (leads c) → IsTrue all → (if c == 48 then over else (leads c && all)) ≡ true
plain_head c over all h k = grind (arith, nat_tests)

plain_leading : (t : Text) → IsTrue (leading t) → IsTrue (are_digits t) → is_plain_number t ≡ true
plain_leading [] h k = cc
plain_leading (c ∷ t) h k = plain_head c (is_over t) (are_digits t) h (second_holds (is_digit c) (are_digits t) k)

pub plain_decimal : (n : ℕ) → n < 2 ^ 64 → is_plain_number (decimal n) ≡ true
unfolding digits
plain_decimal zero h = refl
plain_decimal (suc n) h = plain_leading (decimal (suc n)) (decimal_leads (suc n) h (omega arith)) (decimal_digits (suc n))

unsigned_head : (c : ℕ) (t : Text) (over all : Bool) → (if c == 48 then over else (leads c && all)) ≡ true → (if c == 45 then t else c ∷ t) ≡ c ∷ t
unsigned_head c t over all h = grind (arith, nat_tests)

unsigned : (t : Text) → is_plain_number t ≡ true → behind_sign t ≡ t
unsigned [] h = refl
unsigned (c ∷ t) h = unsigned_head c t (is_over t) (are_digits t) h

pub small_below : (n : ℕ) → IsTrue (in_number_range (negsuc n)) → suc n < 2 ^ 64
small_below n h = grind (arith, nat_tests)

pub plain_signed : (z : ℤ) → IsTrue (in_number_range z) → is_plain_number (behind_sign (signed_decimal z)) ≡ true
plain_signed (pos n) h = ap is_plain_number (unsigned (decimal n) (plain_decimal n (small n h))) ∙ plain_decimal n (small n h)
plain_signed (negsuc n) h = plain_decimal (suc n) (small_below n h)

pub no_minus_zero : (z : ℤ) → IsTrue (in_number_range z) → signed_decimal z ≡ 45 ∷ 48 ∷ [] → ⊥
no_minus_zero (pos n) h e = let k : is_plain_number (45 ∷ 48 ∷ []) ≡ true = subst (λ t. is_plain_number t ≡ true) e (plain_decimal n (small n h)) in cc
no_minus_zero (negsuc n) h e =
    let d : decimal (suc n) ≡ 48 ∷ [] = cc in
    let k : IsTrue (leading (48 ∷ [])) = subst (λ t. IsTrue (leading t)) d (decimal_leads (suc n) (small_below n h) (omega arith)) in
    cc

-- ---- the number that digits spell

pub unsigned_of : (z : ℤ) (t : Text) → is_signed t ≡ false → t ≡ signed_decimal z → (n : ℕ) × (z ≡ pos n) × (t ≡ decimal n)
unsigned_of (pos n) t h e = (n, refl, e)
unsigned_of (negsuc n) t h e = let k : is_signed (45 ∷ decimal (suc n)) ≡ false = subst (λ u. is_signed u ≡ false) e h in absurd (cc)

magnitude_more : (m : ℕ) (ds : Text) (c : ℕ) → magnitude_behind m (ds ++ c ∷ []) ≡ one_digit_more (magnitude_behind m ds) c
magnitude_more m [] c = refl
magnitude_more m (d ∷ ds) c = magnitude_more (one_digit_more m d) ds c

one_more : (n : ℕ) → n < 2 ^ 64 → one_digit_more (n / 10) (48 + n % 10) ≡ n
one_more n h = omega arith

first_digit : (n : ℕ) → n < 10 → one_digit_more 0 (48 + n) ≡ n
first_digit n h = omega arith

pub magnitude_is : (n : ℕ) → n < 2 ^ 64 → magnitude_behind 0 (decimal n) ≡ n
magnitude_is n h =
    decimal_by_steps (λ n ds. n < 2 ^ 64 → magnitude_behind 0 ds ≡ n) (λ n l h. first_digit n l)
    (λ n ds le before h. magnitude_more 0 ds (48 + n % 10) ∙ ap (λ m. one_digit_more m (48 + n % 10)) (before (omega arith)) ∙ one_more n h) n h h
