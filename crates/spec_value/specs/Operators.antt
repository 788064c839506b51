-- What operators answer (Programmer's Manual, "Arithmetic Operators", "Comparing Values", "Testing Membership in a List").
use Rattle.std.specs.Prelude.{ℕ, zero, suc, ◌%◌, ℤ, pos, negsuc, ◌+ℤ◌, Bool, true, false, not, ◌==◌, if◌then◌else◌, ◌++◌, Option, Some, None, option_map, int_rem}
use Rattle.std.specs.Prelude.{◌*ℤ◌, ◌-ℤ◌, neg_ℤ}
use Rattle.std.specs.Int.{w32, int_wrap, int_wrapping_div, int_wrapping_pow}
use Rattle.std.specs.Ordering.{int_eq}
use Rattle.std.specs.declared.cmp.Ordering.{Ordering}
use Rattle.std.specs.declared.cmp.Ordering.TheVariants.{Less, Equal, Greater}
use Rattle.spec_value.specs.Datum.{Datum, integer, text, list, Data, no_data, item, type_mismatch, zero_division, folded, same, is_true}
use Rattle.spec_value.specs.Answer.{Answer, gives, raises, limited, truth, count}
use Rattle.spec_value.specs.Order.{order}

-- ---- their names

pub data UnaryOperator : Type 0 where
  negation not_true : UnaryOperator

pub data BinaryOperator : Type 0 where
  plus minus times divided_by remainder_by to_the : BinaryOperator
  equals differs less less_or_equal greater greater_or_equal is_in : BinaryOperator

-- ---- arithmetic of 32 bits

abbrev pub wrapped : ℤ → Answer
wrapped z = gives (integer (int_wrap w32 z))

-- a quotient without its remainder, and a remainder with the sign of the left side
abbrev pub quotient : ℤ → ℤ → Answer
quotient m n = if int_eq n (pos 0) then raises zero_division else gives (integer (int_wrapping_div w32 m n))

abbrev pub remainder : ℤ → ℤ → Answer
remainder m n = if int_eq n (pos 0) then raises zero_division else gives (integer (int_rem m n))

-- to the power of minus one more than n
abbrev pub inverse_power : ℤ → ℕ → Answer
inverse_power (pos zero) n = raises zero_division
inverse_power (pos (suc zero)) n = gives (integer (pos 1))
inverse_power (pos (suc (suc m))) n = gives (integer (pos 0))
inverse_power (negsuc zero) n = gives (integer (if (n % 2) == 0 then negsuc 0 else pos 1))
inverse_power (negsuc (suc m)) n = gives (integer (pos 0))

abbrev pub power : ℤ → ℤ → Answer
power m (pos n) = gives (integer (int_wrapping_pow w32 m n))
power m (negsuc n) = inverse_power m n

-- ---- comparisons

-- but for the case of letters
abbrev pub alike : Datum → Datum → Bool
alike a b = same (folded a) (folded b)

abbrev pub is_less : Ordering → Bool
is_less Less = true
is_less Equal = false
is_less Greater = false

abbrev pub is_greater : Ordering → Bool
is_greater Less = false
is_greater Equal = false
is_greater Greater = true

abbrev pub compared : (Ordering → Bool) → Option Ordering → Answer
compared test None = raises type_mismatch
compared test (Some o) = gives (truth (test o))

-- the first place whose item passes, counted from 0
abbrev pub first_place : (Datum → Bool) → Data → Option ℕ
first_place test no_data = None
first_place test (item x xs) = if test x then Some 0 else option_map suc (first_place test xs)

-- a place counted from 1, or 0 for none
abbrev pub counted : Option ℕ → Datum
counted None = count 0
counted (Some i) = count (suc i)

-- ---- operators

abbrev pub sum : Datum → Datum → Answer
sum (integer m) (integer n) = wrapped (m +ℤ n)
sum (text s) (text t) = limited (text (s ++ t))
sum _ _ = raises type_mismatch

abbrev pub of_integers : (ℤ → ℤ → Answer) → Datum → Datum → Answer
of_integers f (integer m) (integer n) = f m n
of_integers f _ _ = raises type_mismatch

abbrev pub membership : Datum → Datum → Answer
membership d (list xs) = gives (counted (first_place (alike d) xs))
membership d _ = raises type_mismatch

abbrev pub binary_value : BinaryOperator → Datum → Datum → Answer
binary_value plus a b = sum a b
binary_value minus a b = of_integers (λ m n. wrapped (m -ℤ n)) a b
binary_value times a b = of_integers (λ m n. wrapped (m *ℤ n)) a b
binary_value divided_by a b = of_integers quotient a b
binary_value remainder_by a b = of_integers remainder a b
binary_value to_the a b = of_integers power a b
binary_value equals a b = gives (truth (alike a b))
binary_value differs a b = gives (truth (not (alike a b)))
binary_value less a b = compared is_less (order a b)
binary_value less_or_equal a b = compared (λ o. not (is_greater o)) (order a b)
binary_value greater a b = compared is_greater (order a b)
binary_value greater_or_equal a b = compared (λ o. not (is_less o)) (order a b)
binary_value is_in a b = membership a b

abbrev pub unary_value : UnaryOperator → Datum → Answer
unary_value negation (integer m) = wrapped (neg_ℤ m)
unary_value negation _ = raises type_mismatch
unary_value not_true d = gives (truth (not (is_true d)))
