-- A literal is a text of printed characters.
use Rattle.std.proofs.Common.{ℕ, ◌≤◌, suc, ℤ, pos, negsuc, [], ◌∷◌, IsTrue, Bool, true, false, ◌==◌, ◌||◌, if◌then◌else◌, refl, arith}
use Rattle.std.proofs.lemmas.Bool.Decides.{nat_tests}
use Rattle.std.specs.Fmt.{decimal, signed_decimal}
use Rattle.spec_value.specs.Datum.{Text, is_text, is_character, ErrorCode, no_error, type_mismatch, zero_division, permission_denied, property_not_found, verb_not_found, variable_not_found, invalid_indirection, recursive_move, too_many_calls, range_error, wrong_argument_count, move_refused, invalid_argument, limit_exceeded, float_error, Datum, integer, object, text, error, list, Data, no_data, item, is_value, are_values}
use Rattle.spec_value.specs.Literal.{error_name, escape, escaped, literal, data_text, more_text}
use Rattle.spec_value.proofs.Entries.{first_holds, second_holds, both_hold}
use Rattle.spec_program.specs.Names.{is_digit}
use Rattle.spec_checkpoint.proofs.Numbers.{are_digits, decimal_digits}
use Rattle.moo_value.proofs.Characters.{is_text-append}
use Rattle.moo_value.specs.Depth.{depth}
use Rattle.line_fields.specs.Values.{nests_no_deeper}

digit_character : (c : ℕ) → IsTrue (is_digit c) → IsTrue (is_character c)
digit_character c h = grind (arith, nat_tests)

digits_text : (t : Text) → IsTrue (are_digits t) → IsTrue (is_text t)
digits_text [] h = refl
digits_text (c ∷ t) h = both_hold (is_character c) (is_text t) (digit_character c (first_holds (is_digit c) (are_digits t) h)) (digits_text t (second_holds (is_digit c) (are_digits t) h))

signed_text : (z : ℤ) → IsTrue (is_text (signed_decimal z))
signed_text (pos n) = digits_text (decimal n) (decimal_digits n)
signed_text (negsuc n) = digits_text (decimal (suc n)) (decimal_digits (suc n))

escape_text : (c : ℕ) → IsTrue (is_character c) → IsTrue (is_text (escape c))
escape_text c h = go (c == 34 || c == 92)
  where
    go : (b : Bool) → IsTrue (is_text (if b then 92 ∷ c ∷ [] else c ∷ []))
    go true = both_hold (is_character c) true h refl
    go false = both_hold (is_character c) true h refl

escaped_text : (t : Text) → IsTrue (is_text t) → IsTrue (is_text (escaped t))
escaped_text [] h = refl
escaped_text (c ∷ t) h = is_text-append (escape c) (escaped t) (escape_text c (first_holds (is_character c) (is_text t) h)) (escaped_text t (second_holds (is_character c) (is_text t) h))

error_text : (e : ErrorCode) → IsTrue (is_text (error_name e))
error_text no_error = refl
error_text type_mismatch = refl
error_text zero_division = refl
error_text permission_denied = refl
error_text property_not_found = refl
error_text verb_not_found = refl
error_text variable_not_found = refl
error_text invalid_indirection = refl
error_text recursive_move = refl
error_text too_many_calls = refl
error_text range_error = refl
error_text wrong_argument_count = refl
error_text move_refused = refl
error_text invalid_argument = refl
error_text limit_exceeded = refl
error_text float_error = refl

mutual
  pub literal_text : (v : Datum) → IsTrue (is_value v) → IsTrue (is_text (literal v))
  literal_text (integer z) h = signed_text z
  literal_text (object z) h = signed_text z
  literal_text (text t) h = is_text-append (escaped t) (34 ∷ []) (escaped_text t h) refl
  literal_text (error e) h = error_text e
  literal_text (list xs) h = is_text-append (data_text xs) (125 ∷ []) (data_is_text xs h) refl

  data_is_text : (xs : Data) → IsTrue (are_values xs) → IsTrue (is_text (data_text xs))
  data_is_text no_data h = refl
  data_is_text (item x xs) h = is_text-append (literal x) (more_text xs) (literal_text x (first_holds (is_value x) (are_values xs) h)) (more_is_text xs (second_holds (is_value x) (are_values xs) h))

  more_is_text : (xs : Data) → IsTrue (are_values xs) → IsTrue (is_text (more_text xs))
  more_is_text no_data h = refl
  more_is_text (item x xs) h = is_text-append (literal x) (more_text xs) (literal_text x (first_holds (is_value x) (are_values xs) h)) (more_is_text xs (second_holds (is_value x) (are_values xs) h))

pub no_deeper : (v : Datum) → IsTrue (nests_no_deeper v) → depth v ≤ 100000
no_deeper v h = grind (arith, nat_tests)
