-- A value ends by itself, a number where no digit follows.
use Rattle.std.proofs.Common.{◌≡◌, ℕ, pos, negsuc, [], ◌∷◌, ◌++◌, IsTrue, refl, ap, sym, ◌∙◌, arith, append_assoc, ◌==◌, cond}
use Rattle.std.specs.Fmt.{decimal, signed_decimal}
use Rattle.spec_value.specs.Datum.{Text, ErrorCode, no_error, type_mismatch, zero_division, permission_denied, property_not_found, verb_not_found, variable_not_found, invalid_indirection, recursive_move, too_many_calls, range_error, wrong_argument_count, move_refused, invalid_argument, limit_exceeded, float_error, Datum, integer, object, text, error, list, Data, no_data, item, is_value, are_values}
use Rattle.spec_value.specs.Literal.{error_name, escaped, literal, data_text, more_text}
use Rattle.spec_value.proofs.Entries.{first_holds, second_holds}
use Rattle.spec_program.specs.Names.{is_digit}
use Rattle.spec_checkpoint.specs.Codes.{ends_number, ValuesReadOnce, ListsReadOnce}
use Rattle.spec_checkpoint.proofs.Numbers.{head_same, tail_same, starts_digit, decimal_starts, small, signed_read_once}
use Rattle.spec_checkpoint.proofs.Quoted.{texts_read_once}
use Rattle.spec_checkpoint.proofs.Errors.{errors_read_once}

-- ---- the first character tells the kind of a value

abbrev pub sort_of : Datum → ℕ
sort_of (integer z) = 0
sort_of (object z) = 1
sort_of (text t) = 2
sort_of (error e) = 3
sort_of (list xs) = 4

abbrev pub by_character : ℕ → ℕ
by_character c = cond (is_digit c) 0 (cond (c == 45) 0 (cond (c == 35) 1 (cond (c == 34) 2 (cond (c == 69) 3 (cond (c == 123) 4 5)))))

abbrev pub first_sort : Text → ℕ
first_sort [] = 6
first_sort (c ∷ t) = by_character c

digit_first : (t : Text) → IsTrue (starts_digit t) → first_sort t ≡ 0
digit_first [] h = cc
digit_first (c ∷ t) h = ap (λ b. cond b 0 (cond (c == 45) 0 (cond (c == 35) 1 (cond (c == 34) 2 (cond (c == 69) 3 (cond (c == 123) 4 5)))))) h

error_first : (e : ErrorCode) (r : Text) → first_sort (error_name e ++ r) ≡ 3
error_first no_error r = refl
error_first type_mismatch r = refl
error_first zero_division r = refl
error_first permission_denied r = refl
error_first property_not_found r = refl
error_first verb_not_found r = refl
error_first variable_not_found r = refl
error_first invalid_indirection r = refl
error_first recursive_move r = refl
error_first too_many_calls r = refl
error_first range_error r = refl
error_first wrong_argument_count r = refl
error_first move_refused r = refl
error_first invalid_argument r = refl
error_first limit_exceeded r = refl
error_first float_error r = refl

pub first_is : (v : Datum) (r : Text) → IsTrue (is_value v) → first_sort (literal v ++ r) ≡ sort_of v
first_is (integer (pos n)) r h = digit_first (decimal n ++ r) (decimal_starts n r (small n h))
first_is (integer (negsuc n)) r h = refl
first_is (object z) r h = refl
first_is (text t) r h = refl
first_is (error e) r h = error_first e r
first_is (list xs) r h = refl

pub no_sixth : (v : Datum) → sort_of v ≡ 5 → ⊥
no_sixth (integer z) e = absurd (omega (arith, e))
no_sixth (object z) e = absurd (omega (arith, e))
no_sixth (text t) e = absurd (omega (arith, e))
no_sixth (error x) e = absurd (omega (arith, e))
no_sixth (list xs) e = absurd (omega (arith, e))

-- a value is none of what stands behind the items of a list
no_brace : (v : Datum) (r s : Text) → IsTrue (is_value v) → literal v ++ r ≡ 125 ∷ s → ⊥
no_brace v r s h e = no_sixth v (sym (first_is v r h) ∙ ap first_sort e)

ends_more : (xs : Data) (r : Text) → IsTrue (ends_number (more_text xs ++ 125 ∷ r))
ends_more no_data r = refl
ends_more (item x xs) r = refl

comma_first : (a b : Text) → 44 ∷ a ≡ 125 ∷ b → ⊥
comma_first a b e = absurd (omega (arith, head_same 44 125 a b e))

past_comma : (a b : Text) → (44 ∷ 32 ∷ a) ≡ (44 ∷ 32 ∷ b) → a ≡ b
past_comma a b e = cc

sorts_agree : (x y : Datum) (r s : Text) → IsTrue (is_value x) → IsTrue (is_value y) → literal x ++ r ≡ literal y ++ s → sort_of x ≡ sort_of y
sorts_agree x y r s h k e = sym (first_is x r h) ∙ ap first_sort e ∙ first_is y s k

mutual
  values_same : (v u : Datum) (r s : Text) → IsTrue (is_value v) → IsTrue (is_value u) → IsTrue (ends_number r) → IsTrue (ends_number s)
      → sort_of v ≡ sort_of u → literal v ++ r ≡ literal u ++ s → (v ≡ u) × (r ≡ s)
  values_same (integer y) (integer z) r s h k f g i e = let x = signed_read_once y z r s h k f g e in (ap integer x.0, x.1)
  values_same (object y) (object z) r s h k f g i e = let x = signed_read_once y z r s h k f g (tail_same 35 35 (signed_decimal y ++ r) (signed_decimal z ++ s) e) in (ap object x.0, x.1)
  values_same (text t) (text q) r s h k f g i e =
      let x = texts_read_once t q r s (sym (append_assoc (escaped t) (34 ∷ []) r) ∙ tail_same 34 34 ((escaped t ++ 34 ∷ []) ++ r) ((escaped q ++ 34 ∷ []) ++ s) e ∙ append_assoc (escaped q) (34 ∷ []) s) in
      (ap text x.0, x.1)
  values_same (error c) (error d) r s h k f g i e = let x = errors_read_once c d r s e in (ap error x.0, x.1)
  values_same (list xs) (list ys) r s h k f g i e =
      let x = lists_same xs ys r s h k (sym (append_assoc (data_text xs) (125 ∷ []) r) ∙ tail_same 123 123 ((data_text xs ++ 125 ∷ []) ++ r) ((data_text ys ++ 125 ∷ []) ++ s) e ∙ append_assoc (data_text ys) (125 ∷ []) s) in
      (ap list x.0, x.1)
  values_same _ _ r s h k f g i e = absurd (omega (arith, i))

  lists_same : (xs ys : Data) (r s : Text) → IsTrue (are_values xs) → IsTrue (are_values ys) → data_text xs ++ 125 ∷ r ≡ data_text ys ++ 125 ∷ s → (xs ≡ ys) × (r ≡ s)
  lists_same no_data no_data r s h k e = (refl, tail_same 125 125 r s e)
  lists_same no_data (item y ys) r s h k e =
      absurd (no_brace y (more_text ys ++ 125 ∷ s) r (first_holds (is_value y) (are_values ys) k) (sym (append_assoc (literal y) (more_text ys) (125 ∷ s)) ∙ sym e))
  lists_same (item x xs) no_data r s h k e =
      absurd (no_brace x (more_text xs ++ 125 ∷ r) s (first_holds (is_value x) (are_values xs) h) (sym (append_assoc (literal x) (more_text xs) (125 ∷ r)) ∙ e))
  lists_same (item x xs) (item y ys) r s h k e =
      let a = first_holds (is_value x) (are_values xs) h in
      let b = first_holds (is_value y) (are_values ys) k in
      let d : literal x ++ (more_text xs ++ 125 ∷ r) ≡ literal y ++ (more_text ys ++ 125 ∷ s) = sym (append_assoc (literal x) (more_text xs) (125 ∷ r)) ∙ e ∙ append_assoc (literal y) (more_text ys) (125 ∷ s) in
      let p = values_same x y (more_text xs ++ 125 ∷ r) (more_text ys ++ 125 ∷ s) a b (ends_more xs r) (ends_more ys s) (sorts_agree x y (more_text xs ++ 125 ∷ r) (more_text ys ++ 125 ∷ s) a b d) d in
      let q = more_same xs ys r s (second_holds (is_value x) (are_values xs) h) (second_holds (is_value y) (are_values ys) k) p.1 in
      (λ i. item (p.0 i) (q.0 i), q.1)

  more_same : (xs ys : Data) (r s : Text) → IsTrue (are_values xs) → IsTrue (are_values ys) → more_text xs ++ 125 ∷ r ≡ more_text ys ++ 125 ∷ s → (xs ≡ ys) × (r ≡ s)
  more_same no_data no_data r s h k e = (refl, tail_same 125 125 r s e)
  more_same no_data (item y ys) r s h k e = absurd (comma_first (32 ∷ ((literal y ++ more_text ys) ++ 125 ∷ s)) r (sym e))
  more_same (item x xs) no_data r s h k e = absurd (comma_first (32 ∷ ((literal x ++ more_text xs) ++ 125 ∷ r)) s e)
  more_same (item x xs) (item y ys) r s h k e =
      let a = first_holds (is_value x) (are_values xs) h in
      let b = first_holds (is_value y) (are_values ys) k in
      let c = past_comma ((literal x ++ more_text xs) ++ 125 ∷ r) ((literal y ++ more_text ys) ++ 125 ∷ s) e in
      let d : literal x ++ (more_text xs ++ 125 ∷ r) ≡ literal y ++ (more_text ys ++ 125 ∷ s) = sym (append_assoc (literal x) (more_text xs) (125 ∷ r)) ∙ c ∙ append_assoc (literal y) (more_text ys) (125 ∷ s) in
      let p = values_same x y (more_text xs ++ 125 ∷ r) (more_text ys ++ 125 ∷ s) a b (ends_more xs r) (ends_more ys s) (sorts_agree x y (more_text xs ++ 125 ∷ r) (more_text ys ++ 125 ∷ s) a b d) d in
      let q = more_same xs ys r s (second_holds (is_value x) (are_values xs) h) (second_holds (is_value y) (are_values ys) k) p.1 in
      (λ i. item (p.0 i) (q.0 i), q.1)

pub values_read_once : ValuesReadOnce
values_read_once v u r s h k f g e = values_same v u r s h k f g (sorts_agree v u r s h k e) e

pub lists_read_once : ListsReadOnce
lists_read_once = lists_same
