-- Texts of printed characters, and texts made of them.
use Rattle.std.proofs.Common.{ℕ, zero, suc, ◌-◌, ◌==◌, ◌||◌, ℤ, pos, negsuc, Bool, true, false, List, [], ◌∷◌, ◌++◌, take, drop, length, slice_get, slice_set, Option, IsTrue, refl, if◌then◌else◌, arith}
use Rattle.std.proofs.lemmas.Bool.Decides.{nat_tests}
use Rattle.std.specs.Fmt.{decimal, signed_decimal}
use Rattle.spec_value.specs.Datum.{Text, is_character, is_text, ErrorCode, no_error, type_mismatch, zero_division, permission_denied, property_not_found, verb_not_found, variable_not_found, invalid_indirection, recursive_move, too_many_calls, range_error, wrong_argument_count, move_refused, invalid_argument, limit_exceeded, float_error, Datum, integer, object, text, error, list, Data, no_data, item, is_value, are_values}
use Rattle.spec_value.specs.Literal.{error_name, error_message, escape, escaped, literal, data_text, more_text, to_text}
use Rattle.spec_value.specs.PureBuiltins.{joined_texts}
use Rattle.spec_value.specs.TextSearch.{begins, replaced}
use Rattle.spec_value.proofs.Entries.{first_holds, second_holds, both_hold}
use Rattle.spec_program.specs.Names.{is_digit}
use Rattle.spec_values_kept.specs.Values.{AreValues, IfThere}
use Rattle.spec_checkpoint.proofs.Numbers.{are_digits, decimal_digits}

pub text_then : (s t : Text) → IsTrue (is_text s) → IsTrue (is_text t) → IsTrue (is_text (s ++ t))
text_then [] t h k = k
text_then (c ∷ s) t h k = both_hold (is_character c) (is_text (s ++ t)) (first_holds (is_character c) (is_text s) h) (text_then s t (second_holds (is_character c) (is_text s) h) k)

pub text_onto : (c : ℕ) (t : Text) → IsTrue (is_character c) → IsTrue (is_text t) → IsTrue (is_text (c ∷ t))
text_onto c t h k = both_hold (is_character c) (is_text t) h k

pub first_character : (c : ℕ) (t : Text) → IsTrue (is_text (c ∷ t)) → IsTrue (is_character c)
first_character c t h = first_holds (is_character c) (is_text t) h

pub later_text : (c : ℕ) (t : Text) → IsTrue (is_text (c ∷ t)) → IsTrue (is_text t)
later_text c t h = second_holds (is_character c) (is_text t) h

pub text_take : (n : ℕ) (t : Text) → IsTrue (is_text t) → IsTrue (is_text (take n t))
text_take zero t h = refl
text_take (suc n) [] h = refl
text_take (suc n) (c ∷ t) h = text_onto c (take n t) (first_character c t h) (text_take n t (later_text c t h))

pub text_drop : (n : ℕ) (t : Text) → IsTrue (is_text t) → IsTrue (is_text (drop n t))
text_drop zero t h = h
text_drop (suc n) [] h = h
text_drop (suc n) (c ∷ t) h = text_drop n t (later_text c t h)

abbrev pub CharacterHolds : Option ℕ → Type 0
CharacterHolds o = IfThere (λ c. IsTrue (is_character c)) o

pub text_at : (t : Text) (n : ℕ) → IsTrue (is_text t) → CharacterHolds (slice_get t n)
text_at [] n h = tt
text_at (c ∷ t) zero h = first_character c t h
text_at (c ∷ t) (suc n) h = text_at t n (later_text c t h)

pub text_with : (t : Text) (n c : ℕ) → IsTrue (is_text t) → IsTrue (is_character c) → IsTrue (is_text (slice_set t n c))
text_with [] zero c h k = refl
text_with [] (suc n) c h k = refl
text_with (d ∷ t) zero c h k = text_onto c t k (later_text d t h)
text_with (d ∷ t) (suc n) c h k = text_onto d (slice_set t n c) (first_character d t h) (text_with t n c (later_text d t h) k)

-- ---- what is spelled

digit_character : (c : ℕ) → IsTrue (is_digit c) → IsTrue (is_character c)
digit_character c h = grind (arith, nat_tests)

digits_text : (t : Text) → IsTrue (are_digits t) → IsTrue (is_text t)
digits_text [] h = refl
digits_text (c ∷ t) h = text_onto c t (digit_character c (first_holds (is_digit c) (are_digits t) h)) (digits_text t (second_holds (is_digit c) (are_digits t) h))

pub decimal_text : (n : ℕ) → IsTrue (is_text (decimal n))
decimal_text n = digits_text (decimal n) (decimal_digits n)

pub signed_text : (z : ℤ) → IsTrue (is_text (signed_decimal z))
signed_text (pos n) = decimal_text n
signed_text (negsuc n) = decimal_text (suc n)

escape_text : (c : ℕ) → IsTrue (is_character c) → IsTrue (is_text (escape c))
escape_text c h = go (c == 34 || c == 92)
  where
    go : (b : Bool) → IsTrue (is_text (if b then 92 ∷ c ∷ [] else c ∷ []))
    go true = text_onto c [] h refl
    go false = text_onto c [] h refl

escaped_text : (t : Text) → IsTrue (is_text t) → IsTrue (is_text (escaped t))
escaped_text [] h = refl
escaped_text (c ∷ t) h = text_then (escape c) (escaped t) (escape_text c (first_character c t h)) (escaped_text t (later_text c t h))

pub error_text : (e : ErrorCode) → IsTrue (is_text (error_name e))
error_text no_error = refl
error_text type_mismatch = refl
error_text zero_division = refl
error_text permission_denied = refl
error_text property_not_found = refl
error_text verb_not_found = refl
error_text variable_not_found = refl
error_text invalid_indirection = refl
error_text recursive_move = refl
error_text too_many_calls = refl
error_text range_error = refl
error_text wrong_argument_count = refl
error_text move_refused = refl
error_text invalid_argument = refl
error_text limit_exceeded = refl
error_text float_error = refl

pub message_text : (e : ErrorCode) → IsTrue (is_text (error_message e))
message_text no_error = refl
message_text type_mismatch = refl
message_text zero_division = refl
message_text permission_denied = refl
message_text property_not_found = refl
message_text verb_not_found = refl
message_text variable_not_found = refl
message_text invalid_indirection = refl
message_text recursive_move = refl
message_text too_many_calls = refl
message_text range_error = refl
message_text wrong_argument_count = refl
message_text move_refused = refl
message_text invalid_argument = refl
message_text limit_exceeded = refl
message_text float_error = refl

mutual
  pub literal_text : (v : Datum) → IsTrue (is_value v) → IsTrue (is_text (literal v))
  literal_text (integer z) h = signed_text z
  literal_text (object z) h = signed_text z
  literal_text (text t) h = text_then (escaped t) (34 ∷ []) (escaped_text t h) refl
  literal_text (error e) h = error_text e
  literal_text (list xs) h = text_then (data_text xs) (125 ∷ []) (data_is_text xs h) refl

  data_is_text : (xs : Data) → IsTrue (are_values xs) → IsTrue (is_text (data_text xs))
  data_is_text no_data h = refl
  data_is_text (item x xs) h = text_then (literal x) (more_text xs) (literal_text x (first_holds (is_value x) (are_values xs) h)) (more_is_text xs (second_holds (is_value x) (are_values xs) h))

  more_is_text : (xs : Data) → IsTrue (are_values xs) → IsTrue (is_text (more_text xs))
  more_is_text no_data h = refl
  more_is_text (item x xs) h = text_then (literal x) (more_text xs) (literal_text x (first_holds (is_value x) (are_values xs) h)) (more_is_text xs (second_holds (is_value x) (are_values xs) h))

pub text_of : (v : Datum) → IsTrue (is_value v) → IsTrue (is_text (to_text v))
text_of (integer z) h = signed_text z
text_of (object z) h = signed_text z
text_of (text t) h = h
text_of (error e) h = message_text e
text_of (list xs) h = refl

pub texts_joined : (vs : List Datum) → AreValues vs → IsTrue (is_text (joined_texts vs))
texts_joined [] h = refl
texts_joined (v ∷ vs) h = text_then (to_text v) (joined_texts vs) (text_of v h.0) (texts_joined vs h.1)

-- ---- replaced parts

pub text_replaced : (cased : Bool) (t u : Text) (n : ℕ) (s : Text) → IsTrue (is_text u) → IsTrue (is_text s) → IsTrue (is_text (replaced cased t u n s))
text_replaced cased t u n [] k h = refl
text_replaced cased t u (suc n) (c ∷ s) k h = text_replaced cased t u n s k (later_text c s h)
text_replaced cased t u zero (c ∷ s) k h =
    go (begins cased (c ∷ s) t) (text_replaced cased t u (length t - 1) s k (later_text c s h)) (text_replaced cased t u 0 s k (later_text c s h))
  where
    go : (b : Bool) → IsTrue (is_text (replaced cased t u (length t - 1) s)) → IsTrue (is_text (replaced cased t u 0 s))
        → IsTrue (is_text (if b then u ++ replaced cased t u (length t - 1) s else c ∷ replaced cased t u 0 s))
    go true there after = text_then u (replaced cased t u (length t - 1) s) k there
    go false there after = text_onto c (replaced cased t u 0 s) (first_character c s h) after
