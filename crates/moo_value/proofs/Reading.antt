-- Which value stands at the front of some bytes.
use Rattle.std.proofs.Common.{◌≡◌, ℕ, suc, ◌-◌, ◌<◌, ◌≤◌, ◌^◌, List, [], ◌∷◌, ◌++◌, length, IsTrue, Bool, true, false, Option, Some, None, option_map, refl, ap, sym, ◌∙◌, arith, append_assoc, ◌⊎◌, inl, inr, ℤ, pos, negsuc, if◌then◌else◌, Bor, length-append, ◌==◌}
use Rattle.std.proofs.lemmas.List.{append-nil}
use Rattle.std.specs.Str.{bytes_eq}
use Rattle.std.proofs.lemmas.Slice.Eq.{bytes_eq-Decides}
use Rattle.moo_value.proofs.EscapedTexts.{first_same, second_same}
use Rattle.std.proofs.lemmas.Bool.Decides.{nat_tests}
use Rattle.std.specs.Fmt.{decimal, signed_decimal}
use Rattle.std.proofs.lemmas.Fmt.{decimal_nonempty}
use Rattle.spec_value.specs.Datum.{Datum, integer, object, text, error, list, ErrorCode, no_error, type_mismatch, zero_division, permission_denied, property_not_found, verb_not_found, variable_not_found, invalid_indirection, recursive_move, too_many_calls, range_error, wrong_argument_count, move_refused, invalid_argument, limit_exceeded, float_error, of_list, to_list}
use Rattle.spec_value.specs.Datum.{is_value, are_values}
use Rattle.spec_value.specs.Literal.{literal, data_text, more_text, escaped, error_name}
use Rattle.moo_value.proofs.Listing.{of_list-to_list}
use Rattle.moo_value.specs.declared.error.MooError.{MooError}
use Rattle.moo_value.specs.declared.error.MooError.TheVariants.{NoError, TypeMismatch, ZeroDivision, PermissionDenied, PropertyNotFound, VerbNotFound, VariableNotFound, InvalidIndirection, RecursiveMove, TooManyCalls, RangeError, WrongArgumentCount, MoveRefused, InvalidArgument, LimitExceeded, FloatError}
use Rattle.moo_value.specs.Depth.{depth, data_depth}
use Rattle.moo_value.specs.Read.{is_digit, digit_run, mark, Found, found, first_named, FindsNumber, FindsError, FindsText, FindsValue, FindsItems}
use Rattle.moo_value.proofs.Numbers.{run_decimal}

abbrev pub all_errors : List MooError
all_errors = NoError ∷ TypeMismatch ∷ ZeroDivision ∷ PermissionDenied ∷ PropertyNotFound ∷ VerbNotFound ∷ VariableNotFound ∷ InvalidIndirection ∷ RecursiveMove ∷ TooManyCalls ∷ RangeError ∷ WrongArgumentCount ∷ MoveRefused ∷ InvalidArgument ∷ LimitExceeded ∷ FloatError ∷ []

abbrev pub Front : Datum → ℕ → Type 0
Front (integer n) c = (c ≡ 45) ⊎ IsTrue (is_digit c)
Front (object n) c = c ≡ 35
Front (text s) c = c ≡ 34
Front (error e) c = c ≡ 69
Front (list ds) c = c ≡ 123

digit_front : (c : ℕ) (rest : List ℕ) → 0 < digit_run (c ∷ rest) → IsTrue (is_digit c)
digit_front c rest h = digit_at c (digit_run rest) h
  where
    digit_at : (c n : ℕ) → 0 < (if is_digit c then suc n else 0) → IsTrue (is_digit c)
    digit_at c n h = grind (arith, nat_tests)

error_front : (e : ErrorCode) (r : List ℕ) (c : ℕ) (rest : List ℕ) → error_name e ++ r ≡ c ∷ rest → c ≡ 69
error_front no_error r c rest e = cc
error_front type_mismatch r c rest e = cc
error_front zero_division r c rest e = cc
error_front permission_denied r c rest e = cc
error_front property_not_found r c rest e = cc
error_front verb_not_found r c rest e = cc
error_front variable_not_found r c rest e = cc
error_front invalid_indirection r c rest e = cc
error_front recursive_move r c rest e = cc
error_front too_many_calls r c rest e = cc
error_front range_error r c rest e = cc
error_front wrong_argument_count r c rest e = cc
error_front move_refused r c rest e = cc
error_front invalid_argument r c rest e = cc
error_front limit_exceeded r c rest e = cc
error_front float_error r c rest e = cc

front : (d : Datum) (r : List ℕ) (c : ℕ) (rest : List ℕ) → IsTrue (is_value d) → literal d ++ r ≡ c ∷ rest → Front d c
front (integer (pos n)) r c rest h e =
    let small : n < 2 ^ 64 = grind (arith, nat_tests) in
    let run = run_decimal n small r in
    let some = decimal_nonempty n small in
    let here : 0 < digit_run (decimal n ++ r) = omega arith in
    inr (digit_front c rest (rw e at here))
front (integer (negsuc n)) r c rest h e = inl cc
front (object n) r c rest h e = cc
front (text s) r c rest h e = cc
front (error x) r c rest h e = error_front x r c rest e
front (list ds) r c rest h e = cc

pub found-map : {A B : Type 0} (g : A → B) (o : Found A) → found (option_map (λ p. (g p.0, p.1)) o) ≡ option_map (λ q. (g q.0, q.1)) (found o)
found-map g None = refl
found-map g (Some p) = refl

not_123 : (c : ℕ) → c ≡ 123 → (c ≡ 45) ⊎ IsTrue (is_digit c) → ⊥
not_123 c e h = grind (arith, nat_tests)

not_34 : (c : ℕ) → c ≡ 34 → (c ≡ 45) ⊎ IsTrue (is_digit c) → ⊥
not_34 c e h = grind (arith, nat_tests)

not_35 : (c : ℕ) → c ≡ 35 → (c ≡ 45) ⊎ IsTrue (is_digit c) → ⊥
not_35 c e h = grind (arith, nat_tests)

not_69 : (c : ℕ) → c ≡ 69 → (c ≡ 45) ⊎ IsTrue (is_digit c) → ⊥
not_69 c e h = grind (arith, nat_tests)

number_125 : (c : ℕ) → (c ≡ 45) ⊎ IsTrue (is_digit c) → c ≡ 125 → ⊥
number_125 c h e = grind (arith, nat_tests)

not_125 : (d : Datum) (c : ℕ) → Front d c → c ≡ 125 → ⊥
not_125 (integer n) c f e = number_125 c f e
not_125 (object n) c f e = omega arith
not_125 (text s) c f e = omega arith
not_125 (error x) c f e = omega arith
not_125 (list ds) c f e = omega arith

pub first_value : (d : Datum) (ds : List Datum) → IsTrue (are_values (of_list (d ∷ ds))) → IsTrue (is_value d)
first_value d ds h = grind (arith, nat_tests)

pub rest_values : (d : Datum) (ds : List Datum) → IsTrue (are_values (of_list (d ∷ ds))) → IsTrue (are_values (of_list ds))
rest_values d ds h = grind (arith, nat_tests)

pub rest_depth : (d : Datum) (ds : List Datum) (n : ℕ) → data_depth (of_list (d ∷ ds)) ≤ n → data_depth (of_list ds) ≤ n
rest_depth d ds n h = omega arith

module _ (bytes rest : List ℕ) (c : ℕ) (split : bytes ≡ c ∷ rest) (n : ℕ) where
  pub arm_list : (o : Found (List Datum)) → 0 < n → c ≡ 123 → FindsItems (n - 1) rest o → FindsValue n bytes (option_map (λ p. (list (of_list p.0), p.1)) o)
  arm_list o b k f (list ds) r h w d e =
      let t : rest ≡ (data_text ds ++ 125 ∷ []) ++ r = cc in
      let tail : rest ≡ data_text (of_list (to_list ds)) ++ 125 ∷ r = t ∙ append_assoc (data_text ds) (125 ∷ []) r ∙ ap (λ x. data_text x ++ 125 ∷ r) (sym (of_list-to_list ds)) in
      found-map (λ xs. list (of_list xs)) o ∙ ap (option_map (λ q. (list (of_list q.0), q.1))) (f (to_list ds) r (rw (of_list-to_list ds) h) (rw (of_list-to_list ds) (omega arith)) tail) ∙ ap (λ x. Some (list x, r)) (of_list-to_list ds)
  arm_list o b k f (integer n) r h w d e = absurd (not_123 c k (front (integer n) r c rest h (sym e ∙ split)))
  arm_list o b k f (object n) r h w d e = absurd (omega (arith, front (object n) r c rest h (sym e ∙ split)))
  arm_list o b k f (text s) r h w d e = absurd (omega (arith, front (text s) r c rest h (sym e ∙ split)))
  arm_list o b k f (error x) r h w d e = absurd (omega (arith, front (error x) r c rest h (sym e ∙ split)))

  -- no room for a list
  pub arm_deep : n ≡ 0 → c ≡ 123 → FindsValue n bytes None
  arm_deep none k (list ds) r h w d e = absurd (omega arith)
  arm_deep none k (integer z) r h w d e = absurd (not_123 c k (front (integer z) r c rest h (sym e ∙ split)))
  arm_deep none k (object z) r h w d e = absurd (omega (arith, front (object z) r c rest h (sym e ∙ split)))
  arm_deep none k (text s) r h w d e = absurd (omega (arith, front (text s) r c rest h (sym e ∙ split)))
  arm_deep none k (error x) r h w d e = absurd (omega (arith, front (error x) r c rest h (sym e ∙ split)))

  pub arm_text : (o : Found (List ℕ)) → c ≡ 34 → FindsText rest o → FindsValue n bytes (option_map (λ p. (text p.0, p.1)) o)
  arm_text o k f (text s) r h w d e =
      let t : rest ≡ (escaped s ++ 34 ∷ []) ++ r = cc in
      let tail : rest ≡ escaped s ++ 34 ∷ r = t ∙ append_assoc (escaped s) (34 ∷ []) r in
      found-map text o ∙ ap (option_map (λ q. (text q.0, q.1))) (f s r h tail)
  arm_text o k f (integer n) r h w d e = absurd (not_34 c k (front (integer n) r c rest h (sym e ∙ split)))
  arm_text o k f (object n) r h w d e = absurd (omega (arith, front (object n) r c rest h (sym e ∙ split)))
  arm_text o k f (list s) r h w d e = absurd (omega (arith, front (list s) r c rest h (sym e ∙ split)))
  arm_text o k f (error x) r h w d e = absurd (omega (arith, front (error x) r c rest h (sym e ∙ split)))

  pub arm_object : (o : Found ℤ) → c ≡ 35 → FindsNumber rest o → FindsValue n bytes (option_map (λ p. (object p.0, p.1)) o)
  arm_object o k f (object n) r h w d e =
      let tail : rest ≡ signed_decimal n ++ r = cc in
      found-map object o ∙ ap (option_map (λ q. (object q.0, q.1))) (f n r h d tail)
  arm_object o k f (integer n) r h w d e = absurd (not_35 c k (front (integer n) r c rest h (sym e ∙ split)))
  arm_object o k f (text s) r h w d e = absurd (omega (arith, front (text s) r c rest h (sym e ∙ split)))
  arm_object o k f (list s) r h w d e = absurd (omega (arith, front (list s) r c rest h (sym e ∙ split)))
  arm_object o k f (error x) r h w d e = absurd (omega (arith, front (error x) r c rest h (sym e ∙ split)))

  pub arm_error : (o : Found ErrorCode) → c ≡ 69 → FindsError bytes o → FindsValue n bytes (option_map (λ p. (error p.0, p.1)) o)
  arm_error o k f (error x) r h w d e = found-map error o ∙ ap (option_map (λ q. (error q.0, q.1))) (f x r e)
  arm_error o k f (integer n) r h w d e = absurd (not_69 c k (front (integer n) r c rest h (sym e ∙ split)))
  arm_error o k f (text s) r h w d e = absurd (omega (arith, front (text s) r c rest h (sym e ∙ split)))
  arm_error o k f (list s) r h w d e = absurd (omega (arith, front (list s) r c rest h (sym e ∙ split)))
  arm_error o k f (object n) r h w d e = absurd (omega (arith, front (object n) r c rest h (sym e ∙ split)))

  pub arm_number : (o : Found ℤ) → (c ≡ 123 → ⊥) → (c ≡ 34 → ⊥) → (c ≡ 35 → ⊥) → (c ≡ 69 → ⊥) → FindsNumber bytes o → FindsValue n bytes (option_map (λ p. (integer p.0, p.1)) o)
  arm_number o k l m p f (integer z) r h w d e = found-map integer o ∙ ap (option_map (λ q. (integer q.0, q.1))) (f z r h d e)
  arm_number o k l m p f (object x) r h w d e = absurd (m (front (object x) r c rest h (sym e ∙ split)))
  arm_number o k l m p f (text s) r h w d e = absurd (l (front (text s) r c rest h (sym e ∙ split)))
  arm_number o k l m p f (list s) r h w d e = absurd (k (front (list s) r c rest h (sym e ∙ split)))
  arm_number o k l m p f (error x) r h w d e = absurd (p (front (error x) r c rest h (sym e ∙ split)))

-- what stands behind an item
abbrev pub behind : List Datum → List ℕ → List ℕ
behind es r = more_text (of_list es) ++ 125 ∷ r

pub behind_ends : (es : List Datum) (r : List ℕ) → digit_run (behind es r) ≡ 0
behind_ends [] r = refl
behind_ends (e ∷ es) r = refl

pub behind_item : (e : Datum) (es : List Datum) (r : List ℕ) → data_text (of_list (e ∷ es)) ++ 125 ∷ r ≡ literal e ++ behind es r
behind_item e es r = append_assoc (literal e) (more_text (of_list es)) (125 ∷ r)

pub mark_end : (r : List ℕ) → mark (behind [] r) ≡ Some (true, r)
mark_end r = refl

pub mark_more : (e : Datum) (es : List Datum) (r : List ℕ) → mark (behind (e ∷ es) r) ≡ Some (false, data_text (of_list (e ∷ es)) ++ 125 ∷ r)
mark_more e es r = refl

-- a list that does not end at once has a first item
pub begins : (ds : List Datum) (r : List ℕ) (c : ℕ) (rest : List ℕ) → IsTrue (are_values (of_list ds)) → data_text (of_list ds) ++ 125 ∷ r ≡ c ∷ rest → ((c ≡ 125) × (ds ≡ []) × (rest ≡ r)) ⊎ ((c ≡ 125 → ⊥) × ((e : Datum) × (es : List Datum) × (ds ≡ e ∷ es)))
begins [] r c rest h e = inl (cc, refl, cc)
begins (d ∷ ds) r c rest h e =
    inr (not_125 d c (front d (behind ds r) c rest (first_value d ds h) (sym (behind_item d ds r) ∙ e)), (d, ds, refl))

pub some_bytes : (d : Datum) (r : List ℕ) → IsTrue (is_value d) → literal d ++ r ≡ [] → ⊥
some_bytes (integer (pos n)) r h e =
    let small : n < 2 ^ 64 = grind (arith, nat_tests) in
    let some = decimal_nonempty n small in
    let none = ap length e in
    omega (arith, length-append (decimal n) r, none)
some_bytes (integer (negsuc n)) r h e = cc
some_bytes (object n) r h e = cc
some_bytes (text s) r h e = cc
some_bytes (error no_error) r h e = cc
some_bytes (error type_mismatch) r h e = cc
some_bytes (error zero_division) r h e = cc
some_bytes (error permission_denied) r h e = cc
some_bytes (error property_not_found) r h e = cc
some_bytes (error verb_not_found) r h e = cc
some_bytes (error variable_not_found) r h e = cc
some_bytes (error invalid_indirection) r h e = cc
some_bytes (error recursive_move) r h e = cc
some_bytes (error too_many_calls) r h e = cc
some_bytes (error range_error) r h e = cc
some_bytes (error wrong_argument_count) r h e = cc
some_bytes (error move_refused) r h e = cc
some_bytes (error invalid_argument) r h e = cc
some_bytes (error limit_exceeded) r h e = cc
some_bytes (error float_error) r h e = cc
some_bytes (list ds) r h e = cc

module _ (rest : List ℕ) (e : Datum) (es : List Datum) (r : List ℕ) (h : IsTrue (are_values (of_list (e ∷ es)))) (n : ℕ) (w : data_depth (of_list (e ∷ es)) ≤ n) (is : rest ≡ data_text (of_list (e ∷ es)) ++ 125 ∷ r) where
  pub item_none : FindsValue n rest None → ⊥
  item_none f =
      let got = f e (behind es r) (first_value e es h) (omega arith) (behind_ends es r) (is ∙ behind_item e es r) in
      cc

  pub item_some : (v : Datum) (after : Bor (List ℕ)) → FindsValue n rest (Some (v, after)) → (v ≡ e) × (after.now ≡ behind es r)
  item_some v after f =
      let got = f e (behind es r) (first_value e es h) (omega arith) (behind_ends es r) (is ∙ behind_item e es r) in
      (first_same v e after.now (behind es r) got, second_same v e after.now (behind es r) got)

pub mark_none : (es : List Datum) (r after : List ℕ) → after ≡ behind es r → ◌≡◌ {A = Option (Bool × List ℕ)} None (mark after) → ⊥
mark_none [] r after is e = let got = e ∙ ap mark is in cc
mark_none (x ∷ es) r after is e = let got = e ∙ ap mark is in cc

pub mark_true : (es : List Datum) (r after more : List ℕ) → after ≡ behind es r → ◌≡◌ {A = Option (Bool × List ℕ)} (Some (true, more)) (mark after) → (es ≡ []) × (more ≡ r)
mark_true [] r after more is e = (refl, second_same true true more r (e ∙ ap mark is))
mark_true (x ∷ es) r after more is e =
    let got = first_same true false more (data_text (of_list (x ∷ es)) ++ 125 ∷ r) (e ∙ ap mark is) in
    absurd (cc)

pub mark_false : (es : List Datum) (r after more : List ℕ) → after ≡ behind es r → ◌≡◌ {A = Option (Bool × List ℕ)} (Some (false, more)) (mark after) → (x : Datum) × (xs : List Datum) × (es ≡ x ∷ xs) × (more ≡ data_text (of_list (x ∷ xs)) ++ 125 ∷ r)
mark_false [] r after more is e = let got = first_same false true more r (e ∙ ap mark is) in absurd (cc)
mark_false (x ∷ es) r after more is e = (x, es, refl, second_same false false more (data_text (of_list (x ∷ es)) ++ 125 ∷ r) (e ∙ ap mark is))

pub list_ends : (items ds es pushed : List Datum) (e v : Datum) → ds ≡ items ++ e ∷ es → es ≡ [] → v ≡ e → pushed ≡ items ++ v ∷ [] → pushed ≡ ds
list_ends items ds es pushed e v is none same new = new ∙ ap (λ x. items ++ x ∷ []) same ∙ ap (λ xs. items ++ e ∷ xs) (sym none) ∙ sym is

pub list_goes : (items ds es pushed : List Datum) (e v x : Datum) (xs : List Datum) → ds ≡ items ++ e ∷ es → es ≡ x ∷ xs → v ≡ e → pushed ≡ items ++ v ∷ [] → ds ≡ pushed ++ x ∷ xs
list_goes items ds es pushed e v x xs is some same new =
    is ∙ ap (λ ys. items ++ e ∷ ys) some ∙ sym (append_assoc items (e ∷ []) (x ∷ xs)) ∙ ap (λ y. (items ++ y ∷ []) ++ x ∷ xs) (sym same) ∙ ap (λ ys. ys ++ x ∷ xs) (sym new)

pub none_found : (d : Datum) (bytes : List ℕ) (n : ℕ) → IsTrue (is_value d) → depth d ≤ n → bytes ≡ literal d → FindsValue n bytes None → ⊥
none_found d bytes n h w e f =
    let got = f d [] h w refl (e ∙ sym (append-nil (literal d))) in
    cc

pub rest_found : (d v : Datum) (bytes : List ℕ) (rest : Bor (List ℕ)) (n : ℕ) → IsTrue (is_value d) → depth d ≤ n → bytes ≡ literal d → FindsValue n bytes (Some (v, rest)) → (v ≡ d) × (rest.now ≡ [])
rest_found d v bytes rest n h w e f =
    let got = f d [] h w refl (e ∙ sym (append-nil (literal d))) in
    (first_same v d rest.now [] got, second_same v d rest.now [] got)

pub not_empty : (xs : List ℕ) (b : Bool) → b ≡ (length xs == 0) → xs ≡ [] → b ≡ false → ⊥
not_empty xs b is none e = let one : b ≡ true = is ∙ ap (λ ys. length ys == 0) none in cc

pub texts_differ : (xs ys : List ℕ) → bytes_eq xs ys ≡ false → xs ≡ ys → ⊥
texts_differ xs ys e same = let t = (bytes_eq-Decides xs ys).1 same in cc

-- no error's name begins with another's
pub error_found : (e : ErrorCode) (r : List ℕ) → first_named all_errors (error_name e ++ r) ≡ Some (e, r)
error_found no_error r = refl
error_found type_mismatch r = refl
error_found zero_division r = refl
error_found permission_denied r = refl
error_found property_not_found r = refl
error_found verb_not_found r = refl
error_found variable_not_found r = refl
error_found invalid_indirection r = refl
error_found recursive_move r = refl
error_found too_many_calls r = refl
error_found range_error r = refl
error_found wrong_argument_count r = refl
error_found move_refused r = refl
error_found invalid_argument r = refl
error_found limit_exceeded r = refl
error_found float_error r = refl
