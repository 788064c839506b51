-- Literals: what value a text could spell, and whether it spells it.
use Rattle.std.specs.Prelude.{ℕ, zero, suc, ◌==◌, ◌&&◌, ◌||◌, pos, Bool, true, false, List, [], ◌∷◌, length, drop, if◌then◌else◌, Option, Some, None}
use Rattle.std.specs.List.{list_all}
use Rattle.spec_value.specs.Datum.{Text, same_text, ErrorCode, no_error, type_mismatch, zero_division, permission_denied, property_not_found, verb_not_found, variable_not_found, invalid_indirection, recursive_move, too_many_calls, range_error, wrong_argument_count, move_refused, invalid_argument, limit_exceeded, float_error, Datum, integer, object, text, error, list, Data, no_data, item, to_list, is_value}
use Rattle.spec_value.specs.Literal.{error_name, literal}
use Rattle.spec_program.specs.Names.{is_digit}
use Rattle.spec_faults.specs.Plain.{only_if, passes, signed_value}

-- ---- what stands at the front of a text, and what behind it

pub record Front (A : Type 0) : Type 0 where
  pub found : A
  pub rest : Text

abbrev pub onto_if : Bool → ℕ → Text → Text
onto_if true c t = c ∷ t
onto_if false c t = []

-- the digits and minus signs at the front
abbrev pub numeral : Text → Text
numeral [] = []
numeral (c ∷ t) = onto_if (is_digit c || c == 45) c (numeral t)

abbrev pub one_more : ℕ → Front Text → Front Text
one_more c f = record { found = c ∷ f.found; rest = f.rest }

abbrev pub past : Bool → ℕ → Front Text → Front Text
past true c f = f
past false c f = one_more c f

-- behind the opening quote, perhaps behind a backslash
abbrev pub text_front : Bool → Text → Front Text
text_front escaped [] = record { found = []; rest = [] }
text_front true (c ∷ t) = one_more c (text_front false t)
text_front false (c ∷ t) = if c == 34 then record { found = []; rest = t } else past (c == 92) c (text_front (c == 92) t)

abbrev pub errors : List ErrorCode
errors =
    no_error ∷ type_mismatch ∷ zero_division ∷ permission_denied ∷ property_not_found ∷ verb_not_found ∷ variable_not_found ∷ invalid_indirection
    ∷ recursive_move ∷ too_many_calls ∷ range_error ∷ wrong_argument_count ∷ move_refused ∷ invalid_argument ∷ limit_exceeded ∷ float_error ∷ []

abbrev pub begins : Text → Text → Bool
begins [] t = true
begins (c ∷ u) [] = false
begins (c ∷ u) (d ∷ t) = c == d && begins u t

-- the first whose name stands there
abbrev pub error_front : List ErrorCode → Text → Front Datum
error_front [] t = record { found = integer (pos 0); rest = t }
error_front (e ∷ es) t = if begins (error_name e) t then record { found = error e; rest = drop (length (error_name e)) t } else error_front es t

-- a character that tells the kind of value
pub data Sort : Type 0 where
  of_integer of_object of_text of_error of_list : Sort

abbrev pub sort_of : ℕ → Sort
sort_of c = if c == 35 then of_object else (if c == 34 then of_text else (if c == 69 then of_error else (if c == 123 then of_list else of_integer)))

abbrev pub integer_front : Text → Front Datum
integer_front t = record { found = integer (signed_value (numeral t)); rest = drop (length (numeral t)) t }

abbrev pub object_front : Text → Front Datum
object_front t = record { found = object (signed_value (numeral t)); rest = drop (length (numeral t)) t }

abbrev pub as_text : Front Text → Front Datum
as_text f = record { found = text f.found; rest = f.rest }

abbrev pub as_list : Front Data → Front Datum
as_list f = record { found = list f.found; rest = f.rest }

abbrev pub by_sort : Sort → ℕ → Text → (Text → Front Data) → Front Datum
by_sort of_integer c t items = integer_front (c ∷ t)
by_sort of_object c t items = object_front t
by_sort of_text c t items = as_text (text_front false t)
by_sort of_error c t items = error_front errors (c ∷ t)
by_sort of_list c t items = as_list (items t)

abbrev pub closes : Text → Bool
closes [] = true
closes (c ∷ t) = c == 125

abbrev pub unless_closed : Bool → Text → (Text → Front Data) → Front Data
unless_closed true t items = record { found = no_data; rest = drop 1 t }
unless_closed false t items = items t

abbrev pub followed : Front Datum → (Text → Front Data) → Front Data
followed v items = let more : Front Data = items v.rest in record { found = item v.found more.found; rest = more.rest }

-- in at most so many steps; the items of a list with so many characters before the first of them
unfoldable mutual
  pub value_front : ℕ → Text → Front Datum
  value_front zero t = record { found = integer (pos 0); rest = t }
  value_front (suc n) [] = record { found = integer (pos 0); rest = [] }
  value_front (suc n) (c ∷ t) = by_sort (sort_of c) c t (λ u. items_front n 0 u)

  pub items_front : ℕ → ℕ → Text → Front Data
  items_front zero k t = record { found = no_data; rest = t }
  items_front (suc n) k t = unless_closed (closes t) t (λ u. followed (value_front n (drop k u)) (λ r. items_front n 2 r))

-- ---- the whole text

-- lists stand in one another at most so deep
abbrev mutual
  pub nests : ℕ → Datum → Bool
  nests zero (list xs) = false
  nests (suc n) (list xs) = all_nest n xs
  nests n _ = true

  pub all_nest : ℕ → Data → Bool
  all_nest n no_data = true
  all_nest n (item x xs) = nests n x && all_nest n xs

abbrev pub deepest : ℕ
deepest = 100000

abbrev pub is_spelling : Datum → Text → Bool
is_spelling v t = same_text (literal v) t && (is_value v && nests deepest v)

-- the value whose literal it is: numbers in their range, texts of their characters, and no deeper than values are read
abbrev pub value_of : Text → Option Datum
value_of t = let v : Datum = (value_front (suc (length t)) t).found in only_if (is_spelling v t) v

-- a literal of a value that passes a test
abbrev pub is_literal : (Datum → Bool) → Text → Bool
is_literal test t = passes test (value_of t)

-- ---- kinds

abbrev pub any : Datum → Bool
any v = true

abbrev pub is_string : Datum → Bool
is_string (text t) = true
is_string _ = false

abbrev pub is_object_value : Datum → Bool
is_object_value (object z) = true
is_object_value _ = false

abbrev pub is_list_of : (Datum → Bool) → Datum → Bool
is_list_of test (list xs) = list_all test (to_list xs)
is_list_of test _ = false

-- 0, once they are too long
abbrev pub are_lines_held : Datum → Bool
are_lines_held (integer (pos zero)) = true
are_lines_held v = is_list_of is_string v

-- what a link is programming: 0 for nothing, or an object, a verb and the lines so far
abbrev pub is_programming : Datum → Bool
is_programming (integer (pos zero)) = true
is_programming (list (item (object o) (item (text t) (item v no_data)))) = are_lines_held v
is_programming _ = false

-- {argstr, dobj, dobjstr, prepstr, iobj, iobjstr}
abbrev pub is_start : Datum → Bool
is_start (list (item (text a) (item (object o) (item (text b) (item (text c) (item (object p) (item (text d) no_data))))))) = true
is_start _ = false

abbrev pub items_of : Option Datum → Option (List Datum)
items_of (Some (list xs)) = Some (to_list xs)
items_of _ = None
