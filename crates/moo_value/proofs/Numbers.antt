-- Numbers at the front of some bytes.
use Rattle.std.proofs.Common.{◌≡◌, ℕ, suc, ◌+◌, ◌<◌, ◌%◌, ◌^◌, List, [], ◌∷◌, ◌++◌, length, take, drop, IsTrue, refl, ap, ◌∙◌, arith, append_assoc, length-append, ◌==◌, if◌then◌else◌, ℤ, pos, negsuc}
use Rattle.std.proofs.lemmas.Bool.Decides.{nat_tests}
use Rattle.std.specs.Prelude.{FitsSigned}
use Rattle.std.proofs.Common.{w32}
use Rattle.std.specs.Int.Signed.{mag}
use Rattle.std.specs.Fmt.{decimal, signed_decimal}
use Rattle.std.proofs.lemmas.Fmt.{decimal_by_steps, decimal_nonempty}
use Rattle.std.proofs.Math.Seq.{take-append_seam, drop-append_seam}
use Rattle.spec_value.specs.Datum.{in_number_range}
use Rattle.moo_value.specs.Read.{is_digit, digit_run, numeral_length}

abbrev pub IsRun : ℕ → List ℕ → Type 0
IsRun n ds = (r : List ℕ) → digit_run (ds ++ r) ≡ length ds + digit_run r

run_digit : (c : ℕ) (r : List ℕ) → c < 10 → digit_run ((48 + c) ∷ r) ≡ 1 + digit_run r
run_digit c r h = grind (arith, nat_tests)

pub run_decimal : (n : ℕ) → n < 2 ^ 64 → IsRun n (decimal n)
run_decimal =
    decimal_by_steps IsRun (λ n h r. run_digit n r h) (λ n ds le before r. rw (append_assoc ds ((48 + n % 10) ∷ []) r, before ((48 + n % 10) ∷ r), run_digit (n % 10) r (omega arith), length-append ds ((48 + n % 10) ∷ [])) (omega arith))

minus_or_not : (c n : ℕ) → 0 < (if is_digit c then suc n else 0) → (if c == 45 then suc n else (if is_digit c then suc n else 0)) ≡ (if is_digit c then suc n else 0)
minus_or_not c n h = grind (arith, nat_tests)

not_minus : (xs : List ℕ) → 0 < digit_run xs → numeral_length xs ≡ digit_run xs
not_minus [] h = refl
not_minus (c ∷ cs) h = minus_or_not c (digit_run cs) h

pub run_signed : (z : ℤ) (r : List ℕ) → IsTrue (in_number_range z) → digit_run r ≡ 0 → numeral_length (signed_decimal z ++ r) ≡ length (signed_decimal z)
run_signed (pos n) r h e =
    let small : n < 2 ^ 64 = grind (arith, nat_tests) in
    let run = run_decimal n small r in
    let some = decimal_nonempty n small in
    let here : 0 < digit_run (decimal n ++ r) = omega arith in
    not_minus (decimal n ++ r) here ∙ omega (arith, run)
run_signed (negsuc n) r h e =
    let small : suc n < 2 ^ 64 = grind (arith, nat_tests) in
    let run = run_decimal (suc n) small r in
    ap suc (omega (arith, run))

pub number_split : (bytes : List ℕ) (z : ℤ) (r : List ℕ) (k : ℕ) → IsTrue (in_number_range z) → digit_run r ≡ 0 → bytes ≡ signed_decimal z ++ r → k ≡ numeral_length bytes → (take k bytes ≡ signed_decimal z) × (drop k bytes ≡ r)
number_split bytes z r k h e split is =
    let len : k ≡ length (signed_decimal z) = is ∙ ap numeral_length split ∙ run_signed z r h e in
    (rw (len, split) (take-append_seam (signed_decimal z) r), rw (len, split) (drop-append_seam (signed_decimal z) r))

pub small_magnitude : (z : ℤ) → IsTrue (in_number_range z) → mag z < 2 ^ 63
small_magnitude (pos n) h = grind (arith, nat_tests)
small_magnitude (negsuc n) h = grind (arith, nat_tests)

pub fits_number : (z : ℤ) → IsTrue (in_number_range z) → FitsSigned w32 z
fits_number (pos n) h = grind (arith, nat_tests)
fits_number (negsuc n) h = grind (arith, nat_tests)
