-- Values (Programmer's Manual, "MOO value types"), as plain data.
use Rattle.std.specs.Prelude.{ℕ, suc, ◌+◌, ◌^◌, ℤ, pos, negsuc, Bool, true, false, ◌&&◌, ◌||◌, not, List, [], ◌∷◌, ◌==◌, length, map, nat_le, nat_lt}
use Rattle.std.specs.Ordering.{int_eq}
use Rattle.std.specs.Cmp.Lexicographic.{pointwise}
use Rattle.std.specs.Char.{to_ascii_lowercase}

-- by the codes of its characters
abbrev pub Text : Type 0
Text = List ℕ

-- the case of A to Z ignored
abbrev pub fold_case : Text → Text
fold_case t = map to_ascii_lowercase t

abbrev pub same_text : Text → Text → Bool
same_text = pointwise ◌==◌

-- tab, and space to tilde
abbrev pub is_character : ℕ → Bool
is_character c = (c == 9) || (nat_le 32 c && nat_le c 126)

abbrev pub is_text : Text → Bool
is_text [] = true
is_text (c ∷ t) = is_character c && is_text t

-- in their order E_NONE, E_TYPE, E_DIV, E_PERM, E_PROPNF, E_VERBNF, E_VARNF, E_INVIND, E_RECMOVE, E_MAXREC, E_RANGE, E_ARGS, E_NACC, E_INVARG, E_QUOTA, E_FLOAT
pub data ErrorCode : Type 0 where
  no_error type_mismatch zero_division permission_denied property_not_found verb_not_found variable_not_found : ErrorCode
  invalid_indirection recursive_move too_many_calls range_error wrong_argument_count move_refused : ErrorCode
  invalid_argument limit_exceeded float_error : ErrorCode

abbrev pub error_number : ErrorCode → ℕ
error_number no_error = 0
error_number type_mismatch = 1
error_number zero_division = 2
error_number permission_denied = 3
error_number property_not_found = 4
error_number verb_not_found = 5
error_number variable_not_found = 6
error_number invalid_indirection = 7
error_number recursive_move = 8
error_number too_many_calls = 9
error_number range_error = 10
error_number wrong_argument_count = 11
error_number move_refused = 12
error_number invalid_argument = 13
error_number limit_exceeded = 14
error_number float_error = 15

mutual
  pub data Datum : Type 0 where
    integer : ℤ → Datum
    object : ℤ → Datum
    text : Text → Datum
    error : ErrorCode → Datum
    list : Data → Datum

  pub data Data : Type 0 where
    no_data : Data
    item : Datum → Data → Data

abbrev pub of_list : List Datum → Data
of_list [] = no_data
of_list (x ∷ xs) = item x (of_list xs)

abbrev pub to_list : Data → List Datum
to_list no_data = []
to_list (item x xs) = x ∷ to_list xs

-- one more at the end
abbrev pub append : Data → Datum → Data
append no_data x = item x no_data
append (item y ys) x = item y (append ys x)

abbrev pub joined : Data → Data → Data
joined no_data ys = ys
joined (item x xs) ys = item x (joined xs ys)

-- the numbers of this profile are those of 32 bits
abbrev pub in_number_range : ℤ → Bool
in_number_range (pos n) = nat_lt n (2 ^ 31)
in_number_range (negsuc n) = nat_lt n (2 ^ 31)

-- numbers in their range and texts of their characters, at every level
abbrev mutual
  pub is_value : Datum → Bool
  is_value (integer z) = in_number_range z
  is_value (object z) = in_number_range z
  is_value (text t) = is_text t
  is_value (error e) = true
  is_value (list xs) = are_values xs

  pub are_values : Data → Bool
  are_values no_data = true
  are_values (item x xs) = is_value x && are_values xs

-- the same value, case counted
unfoldable mutual
  pub same : Datum → Datum → Bool
  same (integer m) (integer n) = int_eq m n
  same (object m) (object n) = int_eq m n
  same (text s) (text t) = same_text s t
  same (error e) (error f) = error_number e == error_number f
  same (list xs) (list ys) = same_data xs ys
  same _ _ = false

  pub same_data : Data → Data → Bool
  same_data no_data no_data = true
  same_data (item x xs) (item y ys) = same x y && same_data xs ys
  same_data _ _ = false

-- with the case of A to Z ignored in every text
abbrev mutual
  pub folded : Datum → Datum
  folded (integer z) = integer z
  folded (object z) = object z
  folded (text t) = text (fold_case t)
  folded (error e) = error e
  folded (list xs) = list (folded_data xs)

  pub folded_data : Data → Data
  folded_data no_data = no_data
  folded_data (item x xs) = item (folded x) (folded_data xs)

-- an integer, object or error weighs 1, a text its length plus 1, a list 1 plus its items
abbrev mutual
  pub weight : Datum → ℕ
  weight (integer _) = 1
  weight (object _) = 1
  weight (text t) = suc (length t)
  weight (error _) = 1
  weight (list xs) = suc (data_weight xs)

  pub data_weight : Data → ℕ
  data_weight no_data = 0
  data_weight (item x xs) = weight x + data_weight xs

-- nonzero integers, nonempty texts and nonempty lists
abbrev pub is_true : Datum → Bool
is_true (integer n) = not (int_eq n (pos 0))
is_true (object o) = false
is_true (text []) = false
is_true (text (c ∷ t)) = true
is_true (error e) = false
is_true (list no_data) = false
is_true (list (item x xs)) = true
