-- How the logic stores values.
use Rattle.std.specs.Prelude.{◌≡◌, ℕ, zero, suc, ℤ, pos, negsuc, [], ◌∷◌, Option, Some, None, ◌==◌, cond, refl}
use Rattle.std.specs.Coded.{Coded, code_by}
use base.Stored.{Gv, gnil, gnum, gcons}
use denote.Struct.Codes.{itself}
use mathlib.Core.Path.{ap}
use Rattle.spec_value.specs.Datum.{Text, ErrorCode, no_error, type_mismatch, zero_division, permission_denied, property_not_found, verb_not_found, variable_not_found, invalid_indirection, recursive_move, too_many_calls, range_error, wrong_argument_count, move_refused, invalid_argument, limit_exceeded, float_error, error_number, Datum, integer, object, text, error, list, Data, no_data, item}

-- ---- what is stored at a place of a row

abbrev pub number_in : Gv → ℕ
number_in gnil = 0
number_in (gnum n) = n
number_in (gcons a b) = 0

abbrev pub gv_0 : Gv → Gv
gv_0 gnil = gnil
gv_0 (gnum n) = gnil
gv_0 (gcons a b) = a

abbrev pub after_first : Gv → Gv
after_first gnil = gnil
after_first (gnum n) = gnil
after_first (gcons a b) = b

abbrev pub gv_1 : Gv → Gv
gv_1 g = gv_0 (after_first g)

abbrev pub gv_2 : Gv → Gv
gv_2 g = gv_1 (after_first g)

-- ---- numbers, texts, errors

abbrev pub from_integer : ℤ → Gv
from_integer (pos n) = gcons (gnum 0) (gnum n)
from_integer (negsuc n) = gcons (gnum 1) (gnum n)

abbrev pub signed : ℕ → ℕ → ℤ
signed zero n = pos n
signed (suc _) n = negsuc n

abbrev pub to_integer : Gv → ℤ
to_integer g = signed (number_in (gv_0 g)) (number_in (after_first g))

pub integer_back : (z : ℤ) → to_integer (from_integer z) ≡ z
integer_back (pos n) = refl
integer_back (negsuc n) = refl

abbrev pub from_text : Text → Gv
from_text [] = gnil
from_text (c ∷ t) = gcons (gnum c) (from_text t)

abbrev pub to_text : Gv → Text
to_text gnil = []
to_text (gnum n) = []
to_text (gcons a b) = number_in a ∷ to_text b

pub text_back : (t : Text) → to_text (from_text t) ≡ t
text_back [] = refl
text_back (c ∷ t) = λ i. c ∷ text_back t i

abbrev pub from_name : Option Text → Gv
from_name None = gnil
from_name (Some t) = gcons (from_text t) gnil

abbrev pub to_name : Gv → Option Text
to_name gnil = None
to_name (gnum n) = None
to_name (gcons a b) = Some (to_text a)

pub name_back : (t : Option Text) → to_name (from_name t) ≡ t
name_back None = refl
name_back (Some t) = λ i. Some (text_back t i)

abbrev pub error_at : ℕ → ErrorCode
error_at n =
    cond (n == 0) no_error (cond (n == 1) type_mismatch (cond (n == 2) zero_division (cond (n == 3) permission_denied (cond (n == 4) property_not_found
    (cond (n == 5) verb_not_found (cond (n == 6) variable_not_found (cond (n == 7) invalid_indirection (cond (n == 8) recursive_move (cond (n == 9) too_many_calls
    (cond (n == 10) range_error (cond (n == 11) wrong_argument_count (cond (n == 12) move_refused (cond (n == 13) invalid_argument (cond (n == 14) limit_exceeded float_error))))))))))))))

pub error_back : (e : ErrorCode) → error_at (error_number e) ≡ e
error_back no_error = refl
error_back type_mismatch = refl
error_back zero_division = refl
error_back permission_denied = refl
error_back property_not_found = refl
error_back verb_not_found = refl
error_back variable_not_found = refl
error_back invalid_indirection = refl
error_back recursive_move = refl
error_back too_many_calls = refl
error_back range_error = refl
error_back wrong_argument_count = refl
error_back move_refused = refl
error_back invalid_argument = refl
error_back limit_exceeded = refl
error_back float_error = refl

abbrev pub error_code : Coded ErrorCode
error_code = code_by Gv itself (λ e. gnum (error_number e)) (λ g. error_at (number_in g)) error_back

-- ---- values

abbrev mutual
  pub from_datum : Datum → Gv
  from_datum (integer z) = gcons (gnum 0) (from_integer z)
  from_datum (object z) = gcons (gnum 1) (from_integer z)
  from_datum (text t) = gcons (gnum 2) (from_text t)
  from_datum (error e) = gcons (gnum 3) (gnum (error_number e))
  from_datum (list xs) = gcons (gnum 4) (from_data xs)

  pub from_data : Data → Gv
  from_data no_data = gnil
  from_data (item x xs) = gcons (from_datum x) (from_data xs)

abbrev pub datum_at : ℕ → Gv → Data → Datum
datum_at n g xs =
    cond (n == 0) (integer (to_integer g)) (cond (n == 1) (object (to_integer g)) (cond (n == 2) (text (to_text g)) (cond (n == 3) (error (error_at (number_in g))) (list xs))))

-- read as a value, and as a list of values
abbrev pub to_datum : Gv → Datum × Data
to_datum gnil = (integer (pos 0), no_data)
to_datum (gnum n) = (integer (pos 0), no_data)
to_datum (gcons a b) = (datum_at (number_in a) b (to_datum b).1, item (to_datum a).0 (to_datum b).1)

abbrev pub datum_in : Gv → Datum
datum_in g = (to_datum g).0

abbrev mutual
  pub datum_back : (x : Datum) → (to_datum (from_datum x)).0 ≡ x
  datum_back (integer z) = ap integer (integer_back z)
  datum_back (object z) = ap object (integer_back z)
  datum_back (text t) = ap text (text_back t)
  datum_back (error e) = ap error (error_back e)
  datum_back (list xs) = ap list (data_back xs)

  pub data_back : (xs : Data) → (to_datum (from_data xs)).1 ≡ xs
  data_back no_data = refl
  data_back (item x xs) = λ i. item (datum_back x i) (data_back xs i)

abbrev pub datum_code : Coded Datum
datum_code = code_by Gv itself from_datum datum_in datum_back
