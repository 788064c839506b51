-- What is written of a value is a text.
use Rattle.std.proofs.Common.{ℕ, suc, ◌+◌, ◌%◌, ◌<◌, ◌^◌, IsTrue, List, [], ◌∷◌, refl, arith, ℤ, pos, negsuc}
use Rattle.std.proofs.lemmas.Bool.Decides.{nat_tests}
use Rattle.std.specs.Fmt.{decimal, signed_decimal}
use Rattle.std.proofs.lemmas.Fmt.{decimal_by_steps}
use Rattle.spec_value.specs.Datum.{ErrorCode, no_error, type_mismatch, zero_division, permission_denied, property_not_found, verb_not_found, variable_not_found, invalid_indirection, recursive_move, too_many_calls, range_error, wrong_argument_count, move_refused, invalid_argument, limit_exceeded, float_error, Datum, integer, object, text, error, list, Data, no_data, item, is_character, is_text, in_number_range, is_value, are_values}
use Rattle.spec_value.specs.Literal.{error_name, error_message, escape, escaped, literal, data_text, more_text, to_text}
use Rattle.moo_value.proofs.Characters.{is_text-append}

one_digit : (n : ℕ) → n < 10 → IsTrue (is_text ((48 + n) ∷ []))
one_digit n h = grind (arith, nat_tests)

text_decimal : (n : ℕ) → n < 2 ^ 64 → IsTrue (is_text (decimal n))
text_decimal =
    decimal_by_steps (λ n ds. IsTrue (is_text ds)) (λ n h. one_digit n h) (λ n ds le before. is_text-append ds ((48 + n % 10) ∷ []) before (one_digit (n % 10) (omega arith)))

text_signed : (z : ℤ) → IsTrue (in_number_range z) → IsTrue (is_text (signed_decimal z))
text_signed (pos n) h = text_decimal n (grind (arith, nat_tests))
text_signed (negsuc n) h = text_decimal (suc n) (grind (arith, nat_tests))

text_escape : (c : ℕ) → IsTrue (is_character c) → IsTrue (is_text (escape c))
text_escape c h = grind (arith, nat_tests)

text_escaped : (t : List ℕ) → IsTrue (is_text t) → IsTrue (is_text (escaped t))
text_escaped [] h = refl
text_escaped (c ∷ t) h = is_text-append (escape c) (escaped t) (text_escape c (grind (arith, nat_tests))) (text_escaped t (grind (arith, nat_tests)))

text_name : (e : ErrorCode) → IsTrue (is_text (error_name e))
text_name no_error = refl
text_name type_mismatch = refl
text_name zero_division = refl
text_name permission_denied = refl
text_name property_not_found = refl
text_name verb_not_found = refl
text_name variable_not_found = refl
text_name invalid_indirection = refl
text_name recursive_move = refl
text_name too_many_calls = refl
text_name range_error = refl
text_name wrong_argument_count = refl
text_name move_refused = refl
text_name invalid_argument = refl
text_name limit_exceeded = refl
text_name float_error = refl

text_message : (e : ErrorCode) → IsTrue (is_text (error_message e))
text_message no_error = refl
text_message type_mismatch = refl
text_message zero_division = refl
text_message permission_denied = refl
text_message property_not_found = refl
text_message verb_not_found = refl
text_message variable_not_found = refl
text_message invalid_indirection = refl
text_message recursive_move = refl
text_message too_many_calls = refl
text_message range_error = refl
text_message wrong_argument_count = refl
text_message move_refused = refl
text_message invalid_argument = refl
text_message limit_exceeded = refl
text_message float_error = refl

first_value : (x : Datum) (xs : Data) → IsTrue (are_values (item x xs)) → IsTrue (is_value x)
first_value x xs h = grind (arith, nat_tests)

rest_values : (x : Datum) (xs : Data) → IsTrue (are_values (item x xs)) → IsTrue (are_values xs)
rest_values x xs h = grind (arith, nat_tests)

mutual
  pub text_literal : (d : Datum) → IsTrue (is_value d) → IsTrue (is_text (literal d))
  text_literal (integer z) h = text_signed z h
  text_literal (object z) h = text_signed z h
  text_literal (text t) h = is_text-append (escaped t) (34 ∷ []) (text_escaped t h) refl
  text_literal (error e) h = text_name e
  text_literal (list xs) h = is_text-append (data_text xs) (125 ∷ []) (text_data xs h) refl

  text_data : (xs : Data) → IsTrue (are_values xs) → IsTrue (is_text (data_text xs))
  text_data no_data h = refl
  text_data (item x xs) h = is_text-append (literal x) (more_text xs) (text_literal x (first_value x xs h)) (text_more xs (rest_values x xs h))

  text_more : (xs : Data) → IsTrue (are_values xs) → IsTrue (is_text (more_text xs))
  text_more no_data h = refl
  text_more (item x xs) h = is_text-append (literal x) (more_text xs) (text_literal x (first_value x xs h)) (text_more xs (rest_values x xs h))

pub text_shown : (d : Datum) → IsTrue (is_value d) → IsTrue (is_text (to_text d))
text_shown (integer z) h = text_signed z h
text_shown (object z) h = text_signed z h
text_shown (text t) h = h
text_shown (error e) h = text_message e
text_shown (list xs) h = refl
