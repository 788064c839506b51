-- No line end stands within a literal or a name.
use Rattle.std.proofs.Common.{ℕ, suc, ℤ, pos, negsuc, List, [], ◌∷◌, ◌++◌, IsTrue, Bool, true, false, not, ◌||◌, ◌==◌, if◌then◌else◌, refl, codes, arith, Option, Some, None}
use Rattle.std.specs.List.{list_all}
use Rattle.std.specs.Fmt.{decimal, signed_decimal}
use Rattle.std.proofs.lemmas.Bool.Decides.{nat_tests}
use Rattle.spec_value.specs.Datum as value
use Rattle.spec_value.specs.Datum.{Text, is_text, is_character, ErrorCode, no_error, type_mismatch, zero_division, permission_denied, property_not_found, verb_not_found, variable_not_found, invalid_indirection, recursive_move, too_many_calls, range_error, wrong_argument_count, move_refused, invalid_argument, limit_exceeded, float_error, Datum, Data, no_data, item, is_value, are_values}
use Rattle.spec_value.specs.Literal as value_text
use Rattle.spec_value.specs.Literal.{error_name, escape, escaped, data_text, more_text}
use Rattle.spec_value.proofs.Entries.{first_holds, second_holds, both_hold}
use Rattle.spec_program.specs.Names.{is_digit}
use Rattle.spec_program.specs.Spelling.{before_name}
use Rattle.spec_program.specs.Trees.{begins_name, continues_name, is_lower_word, is_name, may_name}
use Rattle.spec_checkpoint.specs.Lines.{is_line, are_lines}
use Rattle.spec_checkpoint.proofs.Numbers.{are_digits, decimal_digits}
use Rattle.spec_checkpoint.proofs.CodeLines.{all_both}

pub line_then : (t u : Text) → IsTrue (is_line t) → IsTrue (is_line u) → IsTrue (is_line (t ++ u))
line_then = all_both (λ c. not (c == 10))

pub lines_then : (ts us : List Text) → IsTrue (are_lines ts) → IsTrue (are_lines us) → IsTrue (are_lines (ts ++ us))
lines_then = all_both is_line

pub line_on : (t : Text) (ts : List Text) → IsTrue (is_line t) → IsTrue (are_lines ts) → IsTrue (are_lines (t ∷ ts))
line_on t ts = both_hold (is_line t) (are_lines ts)

-- ---- literals

digit_line : (c : ℕ) → IsTrue (is_digit c) → IsTrue (not (c == 10))
digit_line c h = grind (arith, nat_tests)

digits_line : (t : Text) → IsTrue (are_digits t) → IsTrue (is_line t)
digits_line [] h = refl
digits_line (c ∷ t) h = both_hold (not (c == 10)) (is_line t) (digit_line c (first_holds (is_digit c) (are_digits t) h)) (digits_line t (second_holds (is_digit c) (are_digits t) h))

pub decimal_line : (n : ℕ) → IsTrue (is_line (decimal n))
decimal_line n = digits_line (decimal n) (decimal_digits n)

pub signed_line : (z : ℤ) → IsTrue (is_line (signed_decimal z))
signed_line (pos n) = decimal_line n
signed_line (negsuc n) = decimal_line (suc n)

character_line : (c : ℕ) → IsTrue (is_character c) → IsTrue (not (c == 10))
character_line c h = grind (arith, nat_tests)

escape_line : (c : ℕ) → IsTrue (not (c == 10)) → IsTrue (is_line (escape c))
escape_line c h = go (c == 34 || c == 92)
  where
    go : (b : Bool) → IsTrue (is_line (if b then 92 ∷ c ∷ [] else c ∷ []))
    go true = both_hold (not (c == 10)) true h refl
    go false = both_hold (not (c == 10)) true h refl

escaped_line : (t : Text) → IsTrue (is_text t) → IsTrue (is_line (escaped t))
escaped_line [] h = refl
escaped_line (c ∷ t) h =
    line_then (escape c) (escaped t) (escape_line c (character_line c (first_holds (is_character c) (is_text t) h))) (escaped_line t (second_holds (is_character c) (is_text t) h))

pub text_line : (t : Text) → IsTrue (is_text t) → IsTrue (is_line t)
text_line [] h = refl
text_line (c ∷ t) h = both_hold (not (c == 10)) (is_line t) (character_line c (first_holds (is_character c) (is_text t) h)) (text_line t (second_holds (is_character c) (is_text t) h))

pub quoted_line : (t : Text) → IsTrue (is_text t) → IsTrue (is_line (value_text.literal (value.text t)))
quoted_line t h = line_then (escaped t) (codes "\"") (escaped_line t h) refl

pub error_line : (e : ErrorCode) → IsTrue (is_line (error_name e))
error_line no_error = refl
error_line type_mismatch = refl
error_line zero_division = refl
error_line permission_denied = refl
error_line property_not_found = refl
error_line verb_not_found = refl
error_line variable_not_found = refl
error_line invalid_indirection = refl
error_line recursive_move = refl
error_line too_many_calls = refl
error_line range_error = refl
error_line wrong_argument_count = refl
error_line move_refused = refl
error_line invalid_argument = refl
error_line limit_exceeded = refl
error_line float_error = refl

mutual
  pub value_line : (v : Datum) → IsTrue (is_value v) → IsTrue (is_line (value_text.literal v))
  value_line (value.integer z) h = signed_line z
  value_line (value.object z) h = signed_line z
  value_line (value.text t) h = quoted_line t h
  value_line (value.error e) h = error_line e
  value_line (value.list xs) h = line_then (data_text xs) (codes "}") (data_line xs h) refl

  data_line : (xs : Data) → IsTrue (are_values xs) → IsTrue (is_line (data_text xs))
  data_line no_data h = refl
  data_line (item x xs) h = line_then (value_text.literal x) (more_text xs) (value_line x (first_holds (is_value x) (are_values xs) h)) (more_line xs (second_holds (is_value x) (are_values xs) h))

  more_line : (xs : Data) → IsTrue (are_values xs) → IsTrue (is_line (more_text xs))
  more_line no_data h = refl
  more_line (item x xs) h = line_then (value_text.literal x) (more_text xs) (value_line x (first_holds (is_value x) (are_values xs) h)) (more_line xs (second_holds (is_value x) (are_values xs) h))

-- ---- names

begins_line : (c : ℕ) → IsTrue (begins_name c) → IsTrue (not (c == 10))
begins_line c h = grind (arith, nat_tests)

continues_line : (c : ℕ) → IsTrue (continues_name c) → IsTrue (not (c == 10))
continues_line c h = grind (arith, nat_tests)

word_line : (t : Text) → IsTrue (list_all continues_name t) → IsTrue (is_line t)
word_line [] h = refl
word_line (c ∷ t) h = both_hold (not (c == 10)) (is_line t) (continues_line c (first_holds (continues_name c) (list_all continues_name t) h)) (word_line t (second_holds (continues_name c) (list_all continues_name t) h))

lower_line : (t : Text) → IsTrue (is_lower_word t) → IsTrue (is_line t)
lower_line [] h = refl
lower_line (c ∷ t) h = both_hold (not (c == 10)) (is_line t) (begins_line c (first_holds (begins_name c) (list_all continues_name t) h)) (word_line t (second_holds (begins_name c) (list_all continues_name t) h))

pub name_line : (t : Text) → IsTrue (is_name t) → IsTrue (is_line t)
name_line t h = lower_line t (first_holds (is_lower_word t) _ h)

pub before_line : (x : Option Text) → IsTrue (may_name x) → IsTrue (is_line (before_name x))
before_line None h = refl
before_line (Some x) h = name_line x h
