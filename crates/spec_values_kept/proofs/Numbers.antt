-- Numbers of 32 bits, and numbers made of them.
use Rattle.std.proofs.Common.{◌≡◌, ℕ, zero, suc, ◌%◌, ◌^◌, ◌<◌, ◌≤◌, ℤ, pos, negsuc, neg_ℤ, Bool, true, false, cond, IsTrue, refl, if◌then◌else◌, arith, int_lt, unsigned_abs, int_rem, le-leb, leb-true}
use Rattle.std.specs.Prelude.{FitsSigned}
use Rattle.std.specs.Int.{w32, int_wrap, int_min, int_max, cast_signed}
use Rattle.std.proofs.lemmas.Int.{SFits-int_wrap, ints}
use Rattle.std.proofs.Math.Nat.{mod-le}
use Rattle.spec_value.specs.Datum.{in_number_range}
use Rattle.spec_value.specs.PureBuiltins.{in_range_or_zero}

pub fits_range : (z : ℤ) → FitsSigned w32 z → IsTrue (in_number_range z)
fits_range (pos n) f = let l : n < 2 ^ 31 = f.sfits in le-leb (suc n) (2 ^ 31) (omega (arith, l))
fits_range (negsuc n) f = let l : n < 2 ^ 31 = f.sfits in le-leb (suc n) (2 ^ 31) (omega (arith, l))

pub wrapped_in_range : (z : ℤ) → IsTrue (in_number_range (int_wrap w32 z))
wrapped_in_range z = fits_range (int_wrap w32 z) (SFits-int_wrap w32 z)

pub cast_in_range : (n : ℕ) → IsTrue (in_number_range (cast_signed w32 n))
cast_in_range n = let f : FitsSigned w32 (cast_signed w32 n) = omega (arith, ints) in fits_range (cast_signed w32 n) f

-- ---- by their sizes

pub below_in_range : (n : ℕ) → n < 2 ^ 31 → IsTrue (in_number_range (pos n))
below_in_range n l = le-leb (suc n) (2 ^ 31) (omega (arith, l))

pub small_number : (n : ℕ) → IsTrue (in_number_range (pos n)) → n < 2 ^ 31
small_number n h = let l : suc n ≤ 2 ^ 31 = leb-true (suc n) (2 ^ 31) h in omega (arith, l)

pub small_negative : (n : ℕ) → IsTrue (in_number_range (negsuc n)) → n < 2 ^ 31
small_negative n h = let l : suc n ≤ 2 ^ 31 = leb-true (suc n) (2 ^ 31) h in omega (arith, l)

negated_in_range : (k a : ℕ) → k ≤ suc a → a < 2 ^ 31 → IsTrue (in_number_range (neg_ℤ (pos k)))
negated_in_range zero a h l = refl
negated_in_range (suc k) a h l = le-leb (suc k) (2 ^ 31) (omega (arith, h, l))

pub remainder_in_range : (m n : ℤ) → IsTrue (in_number_range m) → IsTrue (in_number_range (int_rem m n))
remainder_in_range (pos a) n h =
    let l = small_number a h in let k : a % unsigned_abs n ≤ a = mod-le a (unsigned_abs n) in below_in_range (a % unsigned_abs n) (omega (arith, l, k))
remainder_in_range (negsuc a) n h = negated_in_range (suc a % unsigned_abs n) a (mod-le (suc a) (unsigned_abs n)) (small_negative a h)

pub min_in_range : (m n : ℤ) → IsTrue (in_number_range m) → IsTrue (in_number_range n) → IsTrue (in_number_range (int_min m n))
min_in_range m n h k = go (int_lt n m)
  where
    go : (b : Bool) → IsTrue (in_number_range (cond b n m))
    go true = k
    go false = h

pub max_in_range : (m n : ℤ) → IsTrue (in_number_range m) → IsTrue (in_number_range n) → IsTrue (in_number_range (int_max m n))
max_in_range m n h k = go (int_lt n m)
  where
    go : (b : Bool) → IsTrue (in_number_range (cond b m n))
    go true = h
    go false = k

pub or_zero_in_range : (z : ℤ) → IsTrue (in_number_range (in_range_or_zero z))
or_zero_in_range z = go (in_number_range z) refl
  where
    go : (b : Bool) → in_number_range z ≡ b → IsTrue (in_number_range (if b then z else pos 0))
    go true e = e
    go false e = refl
