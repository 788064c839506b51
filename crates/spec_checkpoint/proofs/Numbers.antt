-- A number ends where no digit follows.
use Rattle.std.proofs.Common.{◌≡◌, ℕ, zero, suc, ◌/◌, ◌==◌, cond, ◌<◌, ◌^◌, ◌%◌, pos, negsuc, [], ◌∷◌, ◌++◌, length, IsTrue, Bool, true, false, refl, ap, sym, subst, arith}
use Rattle.std.proofs.lemmas.Bool.Decides.{nat_tests}
use Rattle.std.specs.List.{list_all}
use Rattle.std.specs.Fmt.{decimal, digits, digits_onto, digit_glyph}
use Rattle.std.proofs.lemmas.Fmt.{decimal_nonempty, decimal_injective}
use Rattle.spec_value.specs.Datum.{Text, in_number_range}
use Rattle.spec_value.proofs.Entries.{first_holds, both_hold}
use Rattle.spec_program.specs.Names.{is_digit}
use Rattle.spec_checkpoint.specs.Codes.{ends_number, NumbersReadOnce, SignedReadOnce}
use Rattle.spec_checkpoint.proofs.Runs.{runs_read_once, stops}

pub head_same : (a b : ℕ) (r s : Text) → (a ∷ r) ≡ (b ∷ s) → a ≡ b
head_same a b r s e = cc

pub tail_same : (a b : ℕ) (r s : Text) → (a ∷ r) ≡ (b ∷ s) → r ≡ s
tail_same a b r s e = cc

abbrev pub are_digits : Text → Bool
are_digits t = list_all is_digit t

glyph_digit : (d : ℕ) → d < 10 → IsTrue (is_digit (digit_glyph false d))
glyph_digit d h = grind (arith, nat_tests)

digits_onto_digits : (k n : ℕ) (acc : Text) → IsTrue (are_digits acc) → IsTrue (are_digits (digits_onto k 10 false n acc))
digits_onto_digits zero n acc h = h
digits_onto_digits (suc k) n acc h =
    let one : IsTrue (are_digits (digit_glyph false (n % 10) ∷ acc)) = both_hold (is_digit (digit_glyph false (n % 10))) (are_digits acc) (glyph_digit (n % 10) (omega arith)) h in
    go (n / 10 == 0) one (digits_onto_digits k (n / 10) (digit_glyph false (n % 10) ∷ acc) one)
  where
    go : (b : Bool) → IsTrue (are_digits (digit_glyph false (n % 10) ∷ acc)) → IsTrue (are_digits (digits_onto k 10 false (n / 10) (digit_glyph false (n % 10) ∷ acc)))
        → IsTrue (are_digits (cond b (digit_glyph false (n % 10) ∷ acc) (digits_onto k 10 false (n / 10) (digit_glyph false (n % 10) ∷ acc))))
    go true one more = one
    go false one more = more

-- of a number of any size
pub decimal_digits : (n : ℕ) → IsTrue (are_digits (decimal n))
unfolding digits
decimal_digits n = digits_onto_digits 64 n [] refl

stops_digits : (r : Text) → IsTrue (ends_number r) → IsTrue (stops is_digit r)
stops_digits [] h = refl
stops_digits (c ∷ r) h = h

runs_same : (ds es r s : Text) → IsTrue (are_digits ds) → IsTrue (are_digits es) → IsTrue (ends_number r) → IsTrue (ends_number s) → ds ++ r ≡ es ++ s → (ds ≡ es) × (r ≡ s)
runs_same ds es r s h k f g e = runs_read_once is_digit ds es r s h k (stops_digits r f) (stops_digits s g) e

pub numbers_read_once : NumbersReadOnce
numbers_read_once m n r s h k f g e =
    let same = runs_same (decimal m) (decimal n) r s (decimal_digits m) (decimal_digits n) f g e in
    (decimal_injective m n h k same.0, same.1)

-- a digit comes first
abbrev pub starts_digit : Text → Bool
starts_digit [] = false
starts_digit (c ∷ t) = is_digit c

first_digit : (ds r : Text) → 0 < length ds → IsTrue (are_digits ds) → IsTrue (starts_digit (ds ++ r))
first_digit [] r h k = absurd (omega arith)
first_digit (c ∷ ds) r h k = first_holds (is_digit c) (are_digits ds) k

pub decimal_starts : (n : ℕ) (r : Text) → n < 2 ^ 64 → IsTrue (starts_digit (decimal n ++ r))
decimal_starts n r h = first_digit (decimal n) r (decimal_nonempty n h) (decimal_digits n)

no_minus : (r s : Text) → IsTrue (starts_digit r) → r ≡ 45 ∷ s → ⊥
no_minus r s h e = let n : IsTrue (starts_digit (45 ∷ s)) = subst (λ t. IsTrue (starts_digit t)) e h in cc

pub small : (n : ℕ) → IsTrue (in_number_range (pos n)) → n < 2 ^ 64
small n h = grind (arith, nat_tests)

small_below : (n : ℕ) → IsTrue (in_number_range (negsuc n)) → suc n < 2 ^ 64
small_below n h = grind (arith, nat_tests)

suc_same : (m n : ℕ) → suc m ≡ suc n → m ≡ n
suc_same m n e = omega (arith, e)

pub signed_read_once : SignedReadOnce
signed_read_once (pos m) (pos n) r s h k f g e = let x = numbers_read_once m n r s (small m h) (small n k) f g e in (ap pos x.0, x.1)
signed_read_once (pos m) (negsuc n) r s h k f g e = absurd (no_minus (decimal m ++ r) (decimal (suc n) ++ s) (decimal_starts m r (small m h)) e)
signed_read_once (negsuc m) (pos n) r s h k f g e = absurd (no_minus (decimal n ++ s) (decimal (suc m) ++ r) (decimal_starts n s (small n k)) (sym e))
signed_read_once (negsuc m) (negsuc n) r s h k f g e =
    let x = numbers_read_once (suc m) (suc n) r s (small_below m h) (small_below n k) f g (tail_same 45 45 (decimal (suc m) ++ r) (decimal (suc n) ++ s) e) in
    (ap negsuc (suc_same m n x.0), x.1)
