-- A line that ends with a number is none of a program.
use Rattle.std.proofs.Common.{ℕ, zero, suc, ◌/◌, ◌%◌, ◌<◌, ℤ, pos, negsuc, [], ◌∷◌, ◌++◌, IsTrue, Bool, true, false, not, ◌==◌, cond, codes, arith}
use Rattle.std.specs.Fmt.{decimal, signed_decimal, digits, digits_onto, digit_glyph}
use Rattle.std.proofs.lemmas.Bool.Decides.{nat_tests}
use Rattle.spec_value.specs.Datum.{Text}
use Rattle.spec_checkpoint.proofs.CodeLines.{is_last, last_behind, closes, leaves_open, open_is_not_closed}

glyph_open : (d : ℕ) → d < 10 → IsTrue (not (is_last (digit_glyph false d)))
glyph_open d h = grind (arith, nat_tests)

digits_open : (k n : ℕ) (acc : Text) → IsTrue (leaves_open acc) → IsTrue (leaves_open (digits_onto k 10 false n acc))
digits_open zero n acc h = h
digits_open (suc k) n acc h =
    let one : IsTrue (leaves_open (digit_glyph false (n % 10) ∷ acc)) = last_behind (λ c. not (is_last c)) (digit_glyph false (n % 10) ∷ []) acc h in
    go (n / 10 == 0) one (digits_open k (n / 10) (digit_glyph false (n % 10) ∷ acc) one)
  where
    go : (b : Bool) → IsTrue (leaves_open (digit_glyph false (n % 10) ∷ acc)) → IsTrue (leaves_open (digits_onto k 10 false (n / 10) (digit_glyph false (n % 10) ∷ acc)))
        → IsTrue (leaves_open (cond b (digit_glyph false (n % 10) ∷ acc) (digits_onto k 10 false (n / 10) (digit_glyph false (n % 10) ∷ acc))))
    go true one more = one
    go false one more = more

first_digits : (k n : ℕ) → IsTrue (leaves_open (digits_onto (suc k) 10 false n []))
first_digits k n =
    let one : IsTrue (leaves_open (digit_glyph false (n % 10) ∷ [])) = glyph_open (n % 10) (omega arith) in
    go (n / 10 == 0) one (digits_open k (n / 10) (digit_glyph false (n % 10) ∷ []) one)
  where
    go : (b : Bool) → IsTrue (leaves_open (digit_glyph false (n % 10) ∷ [])) → IsTrue (leaves_open (digits_onto k 10 false (n / 10) (digit_glyph false (n % 10) ∷ [])))
        → IsTrue (leaves_open (cond b (digit_glyph false (n % 10) ∷ []) (digits_onto k 10 false (n / 10) (digit_glyph false (n % 10) ∷ []))))
    go true one more = one
    go false one more = more

pub decimal_open : (n : ℕ) → IsTrue (leaves_open (decimal n))
unfolding digits
decimal_open n = first_digits 63 n

pub signed_open : (z : ℤ) → IsTrue (leaves_open (signed_decimal z))
signed_open (pos n) = decimal_open n
signed_open (negsuc n) = last_behind (λ c. not (is_last c)) (codes "-") (decimal (suc n)) (decimal_open (suc n))

-- behind the lines of a program
pub not_closed_behind : (a b : Text) → IsTrue (leaves_open b) → IsTrue (not (closes (a ++ b)))
not_closed_behind a b h = open_is_not_closed (a ++ b) (last_behind (λ c. not (is_last c)) a b h)
