-- The value of a literal is read off its front.
use Rattle.std.proofs.Common.{◌≡◌, ℕ, zero, suc, ◌+◌, ◌<◌, ◌≤◌, ◌==◌, ◌&&◌, ◌||◌, ℤ, pos, negsuc, Bool, true, false, not, if◌then◌else◌, [], ◌∷◌, ◌++◌, drop, length, Some, IsTrue, refl, ap, sym, ◌∙◌, arith, append_assoc, length-append}
use Rattle.std.proofs.lemmas.Bool.Decides.{nat_tests}
use Rattle.std.proofs.lemmas.List.{append-nil}
use Rattle.std.proofs.Math.Seq.{drop-append_seam}
use Rattle.std.specs.List.{list_all}
use Rattle.std.specs.Fmt.{decimal, signed_decimal}
use Rattle.std.proofs.lemmas.Fmt.{decimal_nonempty}
use Rattle.spec_value.specs.Datum.{Text, same_text, in_number_range, ErrorCode, no_error, type_mismatch, zero_division, permission_denied, property_not_found, verb_not_found, variable_not_found, invalid_indirection, recursive_move, too_many_calls, range_error, wrong_argument_count, move_refused, invalid_argument, limit_exceeded, float_error, Datum, integer, object, text, error, list, Data, no_data, item, is_value, are_values}
use Rattle.spec_value.specs.Literal.{error_name, escape, escaped, literal, data_text, more_text}
use Rattle.spec_value.proofs.Entries.{first_holds, second_holds, both_hold}
use Rattle.spec_value.proofs.Same.{text_itself}
use Rattle.spec_program.specs.Names.{is_digit}
use Rattle.spec_checkpoint.proofs.Numbers.{are_digits, decimal_digits, starts_digit, decimal_starts, small}
use Rattle.spec_faults.specs.Plain.{only_if, signed_value}
use Rattle.spec_faults.specs.Literals.{Front, onto_if, numeral, one_more, text_front, errors, error_front, Sort, of_integer, sort_of, integer_front, object_front, as_text, as_list, by_sort, closes, unless_closed, followed, value_front, items_front, nests, deepest, is_spelling}
use Rattle.spec_faults.specs.FieldLaws.{ValuesTold}
use Rattle.spec_faults.proofs.Spelling.{some_only, signed_back}

abbrev front : {A : Type 0} → A → Text → Front A
front x r = record { found = x; rest = r }

-- ---- numbers

abbrev is_sign : ℕ → Bool
is_sign c = is_digit c || c == 45

abbrev ends : Text → Bool
ends [] = true
ends (c ∷ t) = not (is_sign c)

abbrev are_signs : Text → Bool
are_signs t = list_all is_sign t

no_more : (r : Text) → IsTrue (ends r) → numeral r ≡ []
no_more [] h = refl
no_more (c ∷ r) h = go (is_sign c) h
  where
    go : (b : Bool) → IsTrue (not b) → onto_if b c (numeral r) ≡ []
    go true k = cc
    go false k = refl

numeral_is : (ds r : Text) → IsTrue (are_signs ds) → IsTrue (ends r) → numeral (ds ++ r) ≡ ds
numeral_is [] r h k = no_more r k
numeral_is (d ∷ ds) r h k = go (is_sign d) (first_holds (is_sign d) (are_signs ds) h) (numeral_is ds r (second_holds (is_sign d) (are_signs ds) h) k)
  where
    go : (b : Bool) → IsTrue b → numeral (ds ++ r) ≡ ds → onto_if b d (numeral (ds ++ r)) ≡ d ∷ ds
    go true i e = ap (λ t. d ∷ t) e
    go false i e = cc

digit_sign : (c : ℕ) → IsTrue (is_digit c) → IsTrue (is_sign c)
digit_sign c h = grind (arith, nat_tests)

digits_signs : (t : Text) → IsTrue (are_digits t) → IsTrue (are_signs t)
digits_signs [] h = refl
digits_signs (c ∷ t) h = both_hold (is_sign c) (are_signs t) (digit_sign c (first_holds (is_digit c) (are_digits t) h)) (digits_signs t (second_holds (is_digit c) (are_digits t) h))

signed_signs : (z : ℤ) → IsTrue (are_signs (signed_decimal z))
signed_signs (pos n) = digits_signs (decimal n) (decimal_digits n)
signed_signs (negsuc n) = digits_signs (decimal (suc n)) (decimal_digits (suc n))

integer_read : (z : ℤ) (r : Text) → IsTrue (in_number_range z) → IsTrue (ends r) → integer_front (signed_decimal z ++ r) ≡ front (integer z) r
integer_read z r h k =
    let n = numeral_is (signed_decimal z) r (signed_signs z) k in
    ap (λ t. front (integer (signed_value t)) (drop (length t) (signed_decimal z ++ r))) n
    ∙ (λ i. front (integer (signed_back z h i)) (drop-append_seam (signed_decimal z) r i))

object_read : (z : ℤ) (r : Text) → IsTrue (in_number_range z) → IsTrue (ends r) → object_front (signed_decimal z ++ r) ≡ front (object z) r
object_read z r h k =
    let n = numeral_is (signed_decimal z) r (signed_signs z) k in
    ap (λ t. front (object (signed_value t)) (drop (length t) (signed_decimal z ++ r))) n
    ∙ (λ i. front (object (signed_back z h i)) (drop-append_seam (signed_decimal z) r i))

-- ---- texts

escape_read : (c : ℕ) (u : Text) → text_front false (escape c ++ u) ≡ one_more c (text_front false u)
escape_read c u = go (c == 34 || c == 92) refl
  where
    no_quote : (c == 34 || c == 92) ≡ false → (c == 34) ≡ false
    no_quote h = grind (arith, nat_tests)

    no_backslash : (c == 34 || c == 92) ≡ false → (c == 92) ≡ false
    no_backslash h = grind (arith, nat_tests)

    go : (b : Bool) → (c == 34 || c == 92) ≡ b → text_front false ((if b then 92 ∷ c ∷ [] else c ∷ []) ++ u) ≡ one_more c (text_front false u)
    go true h = refl
    go false h = rw (no_quote h) (rw (no_backslash h) refl)

text_read : (s r : Text) → text_front false (escaped s ++ 34 ∷ r) ≡ front s r
text_read [] r = refl
text_read (c ∷ s) r =
    ap (text_front false) (append_assoc (escape c) (escaped s) (34 ∷ r)) ∙ escape_read c (escaped s ++ 34 ∷ r) ∙ ap (one_more c) (text_read s r)

-- ---- errors

error_read : (e : ErrorCode) (r : Text) → error_front errors (error_name e ++ r) ≡ front (error e) r
error_read no_error r = refl
error_read type_mismatch r = refl
error_read zero_division r = refl
error_read permission_denied r = refl
error_read property_not_found r = refl
error_read verb_not_found r = refl
error_read variable_not_found r = refl
error_read invalid_indirection r = refl
error_read recursive_move r = refl
error_read too_many_calls r = refl
error_read range_error r = refl
error_read wrong_argument_count r = refl
error_read move_refused r = refl
error_read invalid_argument r = refl
error_read limit_exceeded r = refl
error_read float_error r = refl

-- ---- the first character

abbrev first_sort : Text → Sort
first_sort [] = of_integer
first_sort (c ∷ t) = sort_of c

digit_sort : (c : ℕ) → IsTrue (is_digit c) → sort_of c ≡ of_integer
digit_sort c h = rw (no_object h) (rw (no_quote h) (rw (no_error_name h) (rw (no_brace h) refl)))
  where
    no_object : IsTrue (is_digit c) → (c == 35) ≡ false
    no_object k = grind (arith, nat_tests)

    no_quote : IsTrue (is_digit c) → (c == 34) ≡ false
    no_quote k = grind (arith, nat_tests)

    no_error_name : IsTrue (is_digit c) → (c == 69) ≡ false
    no_error_name k = grind (arith, nat_tests)

    no_brace : IsTrue (is_digit c) → (c == 123) ≡ false
    no_brace k = grind (arith, nat_tests)

number_at_front : (n : ℕ) (t : Text) → IsTrue (starts_digit t) → value_front (suc n) t ≡ integer_front t
unfolding value_front
number_at_front n [] h = cc
number_at_front n (c ∷ t) h = ap (λ s. by_sort s c t (λ u. items_front n 0 u)) (digit_sort c h)

error_at_front : (e : ErrorCode) (n : ℕ) (r : Text) → value_front (suc n) (error_name e ++ r) ≡ error_front errors (error_name e ++ r)
unfolding value_front
error_at_front no_error n r = refl
error_at_front type_mismatch n r = refl
error_at_front zero_division n r = refl
error_at_front permission_denied n r = refl
error_at_front property_not_found n r = refl
error_at_front verb_not_found n r = refl
error_at_front variable_not_found n r = refl
error_at_front invalid_indirection n r = refl
error_at_front recursive_move n r = refl
error_at_front too_many_calls n r = refl
error_at_front range_error n r = refl
error_at_front wrong_argument_count n r = refl
error_at_front move_refused n r = refl
error_at_front invalid_argument n r = refl
error_at_front limit_exceeded n r = refl
error_at_front float_error n r = refl

integer_at_front : (z : ℤ) (n : ℕ) (r : Text) → IsTrue (in_number_range z) → value_front (suc n) (signed_decimal z ++ r) ≡ integer_front (signed_decimal z ++ r)
unfolding value_front
integer_at_front (pos m) n r h = number_at_front n (decimal m ++ r) (decimal_starts m r (small m h))
integer_at_front (negsuc m) n r h = refl

-- ---- the whole

not_empty : (t : Text) (r : Text) → 0 < length t → IsTrue (starts_digit (t ++ r)) → 0 < length t
not_empty t r h k = h

pub some_literal : (v : Datum) → IsTrue (is_value v) → 0 < length (literal v)
some_literal (integer (pos n)) h = decimal_nonempty n (small n h)
some_literal (integer (negsuc n)) h = omega arith
some_literal (object z) h = omega arith
some_literal (text t) h = omega arith
some_literal (error no_error) h = omega arith
some_literal (error type_mismatch) h = omega arith
some_literal (error zero_division) h = omega arith
some_literal (error permission_denied) h = omega arith
some_literal (error property_not_found) h = omega arith
some_literal (error verb_not_found) h = omega arith
some_literal (error variable_not_found) h = omega arith
some_literal (error invalid_indirection) h = omega arith
some_literal (error recursive_move) h = omega arith
some_literal (error too_many_calls) h = omega arith
some_literal (error range_error) h = omega arith
some_literal (error wrong_argument_count) h = omega arith
some_literal (error move_refused) h = omega arith
some_literal (error invalid_argument) h = omega arith
some_literal (error limit_exceeded) h = omega arith
some_literal (error float_error) h = omega arith
some_literal (list xs) h = omega arith

-- a value does not begin as a list ends
opens : (v : Datum) (r : Text) → IsTrue (is_value v) → closes (literal v ++ r) ≡ false
opens (integer (pos n)) r h = go (decimal n ++ r) (decimal_starts n r (small n h))
  where
    no_brace : (c : ℕ) → IsTrue (is_digit c) → (c == 125) ≡ false
    no_brace c k = grind (arith, nat_tests)

    go : (t : Text) → IsTrue (starts_digit t) → closes t ≡ false
    go [] k = cc
    go (c ∷ t) k = no_brace c k
opens (integer (negsuc n)) r h = refl
opens (object z) r h = refl
opens (text t) r h = refl
opens (error no_error) r h = refl
opens (error type_mismatch) r h = refl
opens (error zero_division) r h = refl
opens (error permission_denied) r h = refl
opens (error property_not_found) r h = refl
opens (error verb_not_found) r h = refl
opens (error variable_not_found) r h = refl
opens (error invalid_indirection) r h = refl
opens (error recursive_move) r h = refl
opens (error too_many_calls) r h = refl
opens (error range_error) r h = refl
opens (error wrong_argument_count) r h = refl
opens (error move_refused) r h = refl
opens (error invalid_argument) r h = refl
opens (error limit_exceeded) r h = refl
opens (error float_error) r h = refl
opens (list xs) r h = refl

ends_more : (xs : Data) (r : Text) → IsTrue (ends (more_text xs ++ 125 ∷ r))
ends_more no_data r = refl
ends_more (item x xs) r = refl

-- in front of other items
item_read : (n : ℕ) (t : Text) (x : Datum) (xs : Data) (more r : Text) → value_front n t ≡ front x more → items_front n 2 more ≡ front xs r
    → followed (value_front n t) (λ u. items_front n 2 u) ≡ front (item x xs) r
item_read n t x xs more r e f = ap (λ v. followed v (λ u. items_front n 2 u)) e ∙ ap (λ d. record { found = item x d.found; rest = d.rest }) f

mutual
  unfolding value_front

  value_read : (v : Datum) (r : Text) (n : ℕ) → IsTrue (is_value v) → IsTrue (ends r) → length (literal v) ≤ n → value_front n (literal v ++ r) ≡ front v r
  value_read v r zero h k l = let some = some_literal v h in absurd (omega arith)
  value_read (integer z) r (suc n) h k l = integer_at_front z n r h ∙ integer_read z r h k
  value_read (object z) r (suc n) h k l = object_read z r h k
  value_read (text t) r (suc n) h k l = ap (λ u. as_text (text_front false u)) (append_assoc (escaped t) (34 ∷ []) r) ∙ ap as_text (text_read t r)
  value_read (error e) r (suc n) h k l = error_at_front e n r ∙ error_read e r
  value_read (list xs) r (suc n) h k l =
      let room = length-append (data_text xs) (125 ∷ []) in
      ap (λ u. as_list (items_front n 0 u)) (append_assoc (data_text xs) (125 ∷ []) r) ∙ ap as_list (data_read xs r n h (omega arith))

  data_read : (xs : Data) (r : Text) (n : ℕ) → IsTrue (are_values xs) → length (data_text xs) + 1 ≤ n → items_front n 0 (data_text xs ++ 125 ∷ r) ≡ front xs r
  data_read xs r zero h l = absurd (omega arith)
  data_read no_data r (suc n) h l = refl
  data_read (item x xs) r (suc n) h l =
      let here = first_holds (is_value x) (are_values xs) h in
      let later = second_holds (is_value x) (are_values xs) h in
      let behind : Text = more_text xs ++ 125 ∷ r in
      let room = length-append (literal x) (more_text xs) in
      let some = some_literal x here in
      ap (items_front (suc n) 0) (append_assoc (literal x) (more_text xs) (125 ∷ r))
      ∙ ap (λ b. unless_closed b (literal x ++ behind) (λ u. followed (value_front n (drop 0 u)) (λ s. items_front n 2 s))) (opens x behind here)
      ∙ item_read n (literal x ++ behind) x xs behind r (value_read x behind n here (ends_more xs r) (omega arith)) (more_read xs r n later (omega arith))

  more_read : (xs : Data) (r : Text) (n : ℕ) → IsTrue (are_values xs) → length (more_text xs) + 1 ≤ n → items_front n 2 (more_text xs ++ 125 ∷ r) ≡ front xs r
  more_read xs r zero h l = absurd (omega arith)
  more_read no_data r (suc n) h l = refl
  more_read (item x xs) r (suc n) h l =
      let here = first_holds (is_value x) (are_values xs) h in
      let later = second_holds (is_value x) (are_values xs) h in
      let behind : Text = more_text xs ++ 125 ∷ r in
      let room = length-append (literal x) (more_text xs) in
      let some = some_literal x here in
      ap (λ u. items_front (suc n) 2 (44 ∷ 32 ∷ u)) (append_assoc (literal x) (more_text xs) (125 ∷ r))
      ∙ item_read n (literal x ++ behind) x xs behind r (value_read x behind n here (ends_more xs r) (omega arith)) (more_read xs r n later (omega arith))

value_same : (u v : Datum) → u ≡ v → IsTrue (is_value v) → IsTrue (nests deepest v) → only_if (is_spelling u (literal v)) u ≡ Some v
value_same u v e h k =
    ap (λ x. only_if (is_spelling x (literal v)) x) e
    ∙ some_only (is_spelling v (literal v)) v (both_hold (same_text (literal v) (literal v)) (is_value v && nests deepest v) (text_itself (literal v)) (both_hold (is_value v) (nests deepest v) h k))

whole_value : (v : Datum) → IsTrue (is_value v) → (value_front (suc (length (literal v))) (literal v)).found ≡ v
whole_value v h =
    ap (λ t. (value_front (suc (length (literal v))) t).found) (sym (append-nil (literal v)))
    ∙ ap (λ f. f.found) (value_read v [] (suc (length (literal v))) h refl (omega arith))

pub values_told : ValuesTold
values_told v h k = value_same (value_front (suc (length (literal v))) (literal v)).found v (whole_value v h) h k
