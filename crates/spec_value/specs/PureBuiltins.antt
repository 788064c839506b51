-- Built-in functions of values alone (Programmer's Manual, "Built-in Functions", "Manipulating MOO Values").
use Rattle.std.specs.Prelude.{ℕ, zero, suc, ◌+◌, ◌-◌, ◌*◌, min, ℤ, pos, negsuc, Bool, true, false, ◌&&◌, ◌==◌, nat_le, if◌then◌else◌, List, [], ◌∷◌, ◌++◌, length, Option, Some, None}
use Rattle.std.specs.Int.{w32, int_wrap, int_min, int_max}
use Rattle.std.specs.Ordering.{nat_cmp}
use Rattle.std.specs.Cmp.Lexicographic.{slice_cmp}
use Rattle.std.specs.declared.cmp.Ordering.{Ordering}
use Rattle.std.specs.declared.cmp.Ordering.TheVariants.{Less, Equal, Greater}
use Rattle.spec_value.specs.Datum.{Text, error_number, wrong_argument_count, type_mismatch, range_error, invalid_argument, Datum, integer, object, text, error, list, Data, append, same, is_true, in_number_range}
use Rattle.spec_value.specs.Answer.{Answer, gives, raises, limited_answer, truth, count}
use Rattle.spec_value.specs.Literal.{literal, to_text}
use Rattle.spec_value.specs.Places.{item_count, with_item, inserted, without}
use Rattle.spec_value.specs.Operators.{alike, first_place, counted}
use Rattle.spec_value.specs.Indexing.{natural, place_in}
use Rattle.spec_value.specs.TextSearch.{first_at, last_at, substituted}

-- ---- kinds and texts of values

abbrev pub kind_of : Datum → ℕ
kind_of (integer _) = 0
kind_of (object _) = 1
kind_of (text _) = 2
kind_of (error _) = 3
kind_of (list _) = 4

abbrev pub joined_texts : List Datum → Text
joined_texts [] = []
joined_texts (x ∷ xs) = to_text x ++ joined_texts xs

-- ---- numbers from texts: spaces, a sign, digits and spaces

abbrev pub without_spaces : Text → Text
without_spaces [] = []
without_spaces (c ∷ t) = if c == 32 then without_spaces t else c ∷ t

abbrev pub all_spaces : Text → Bool
all_spaces [] = true
all_spaces (c ∷ t) = (c == 32) && all_spaces t

abbrev pub is_digit : ℕ → Bool
is_digit c = nat_le 48 c && nat_le c 57

-- the number that digits and then spaces spell, after the value of the digits before them
abbrev pub digits_value : ℕ → Text → Option ℕ
digits_value n [] = Some n
digits_value n (c ∷ t) = if is_digit c then digits_value (n * 10 + (c - 48)) t else (if all_spaces (c ∷ t) then Some n else None)

-- at least one digit
abbrev pub starts_with_digit : Text → Bool
starts_with_digit [] = false
starts_with_digit (c ∷ t) = is_digit c

abbrev pub numeral : Text → Option ℕ
numeral t = if starts_with_digit t then digits_value 0 t else None

abbrev pub in_range_or_zero : ℤ → ℤ
in_range_or_zero z = if in_number_range z then z else pos 0

abbrev pub positive : Option ℕ → ℤ
positive None = pos 0
positive (Some n) = in_range_or_zero (pos n)

abbrev pub negated_number : ℕ → ℤ
negated_number zero = pos 0
negated_number (suc n) = in_range_or_zero (negsuc n)

abbrev pub negative : Option ℕ → ℤ
negative None = pos 0
negative (Some n) = negated_number n

abbrev pub signed_number : Text → ℤ
signed_number [] = pos 0
signed_number (c ∷ t) = if c == 45 then negative (numeral t) else (if c == 43 then positive (numeral t) else positive (numeral (c ∷ t)))

abbrev pub number_in : Text → ℤ
number_in t = signed_number (without_spaces t)

-- a `#` may stand before the sign
abbrev pub after_mark : Text → Text
after_mark [] = []
after_mark (c ∷ t) = if c == 35 then t else c ∷ t

abbrev pub object_in : Text → ℤ
object_in t = signed_number (after_mark (without_spaces t))

abbrev pub to_number : Datum → Answer
to_number (integer n) = gives (integer n)
to_number (object n) = gives (integer n)
to_number (text t) = gives (integer (number_in t))
to_number (error e) = gives (integer (pos (error_number e)))
to_number (list _) = raises type_mismatch

abbrev pub to_object : Datum → Answer
to_object (integer n) = gives (object n)
to_object (object n) = gives (object n)
to_object (text t) = gives (object (object_in t))
to_object (error e) = gives (object (pos (error_number e)))
to_object (list _) = raises type_mismatch

-- ---- lists

abbrev pub length_of : Datum → Answer
length_of (text t) = gives (count (length t))
length_of (list xs) = gives (count (item_count xs))
length_of _ = raises type_mismatch

abbrev pub is_member : Datum → Datum → Answer
is_member d (list xs) = gives (counted (first_place (same d) xs))
is_member _ _ = raises type_mismatch

-- at the end, or after a place that is brought to the nearest one
abbrev pub listappend : List Datum → Answer
listappend (list xs ∷ x ∷ []) = gives (list (append xs x))
listappend (list xs ∷ x ∷ integer i ∷ []) = gives (list (inserted xs (min (natural i) (item_count xs)) x))
listappend _ = raises type_mismatch

-- at the front, or before a place that is brought to the nearest one
abbrev pub listinsert : List Datum → Answer
listinsert (list xs ∷ x ∷ []) = gives (list (inserted xs 0 x))
listinsert (list xs ∷ x ∷ integer i ∷ []) = gives (list (inserted xs (min (natural i - 1) (item_count xs)) x))
listinsert _ = raises type_mismatch

abbrev pub deleted : Data → Option ℕ → Answer
deleted xs None = raises range_error
deleted xs (Some i) = gives (list (without xs i))

abbrev pub listdelete : Datum → Datum → Answer
listdelete (list xs) (integer i) = deleted xs (place_in (item_count xs) i)
listdelete _ _ = raises type_mismatch

abbrev pub set_at : Data → Option ℕ → Datum → Answer
set_at xs None x = raises range_error
set_at xs (Some i) x = gives (list (with_item xs i x))

abbrev pub listset : Datum → Datum → Datum → Answer
listset (list xs) x (integer i) = set_at xs (place_in (item_count xs) i) x
listset _ _ _ = raises type_mismatch

abbrev pub added : Data → Datum → Option ℕ → Data
added xs x None = append xs x
added xs x (Some i) = xs

abbrev pub setadd : Datum → Datum → Answer
setadd (list xs) x = gives (list (added xs x (first_place (alike x) xs)))
setadd _ _ = raises type_mismatch

abbrev pub removed : Data → Option ℕ → Data
removed xs None = xs
removed xs (Some i) = without xs i

abbrev pub setremove : Datum → Datum → Answer
setremove (list xs) x = gives (list (removed xs (first_place (alike x) xs)))
setremove _ _ = raises type_mismatch

-- ---- texts

-- the case of letters counts if a last argument is true
abbrev pub case_counts : List Datum → Bool
case_counts [] = false
case_counts (c ∷ cs) = is_true c

abbrev pub index : List Datum → Answer
index (text s ∷ text t ∷ cs) = gives (counted (first_at (case_counts cs) s t))
index _ = raises type_mismatch

abbrev pub rindex : List Datum → Answer
rindex (text s ∷ text t ∷ cs) = gives (counted (last_at (case_counts cs) s t))
rindex _ = raises type_mismatch

abbrev pub compared_number : Ordering → ℤ
compared_number Less = negsuc 0
compared_number Equal = pos 0
compared_number Greater = pos 1

abbrev pub strcmp : Datum → Datum → Answer
strcmp (text s) (text t) = gives (integer (compared_number (slice_cmp nat_cmp s t)))
strcmp _ _ = raises type_mismatch

abbrev pub replaced_text : Bool → Text → Text → Text → Answer
replaced_text cased s [] u = raises invalid_argument
replaced_text cased s (d ∷ t) u = gives (text (substituted cased s (d ∷ t) u))

abbrev pub strsub : List Datum → Answer
strsub (text s ∷ text t ∷ text u ∷ cs) = replaced_text (case_counts cs) s t u
strsub _ = raises type_mismatch

-- ---- numbers

abbrev pub absolute : Datum → Answer
absolute (integer (pos n)) = gives (integer (pos n))
absolute (integer (negsuc n)) = gives (integer (int_wrap w32 (pos (suc n))))
absolute _ = raises type_mismatch

-- the one that a choice between two leaves of all integers
abbrev pub chosen : (ℤ → ℤ → ℤ) → ℤ → List Datum → Answer
chosen f m [] = gives (integer m)
chosen f m (integer n ∷ xs) = chosen f (f m n) xs
chosen f m (_ ∷ xs) = raises type_mismatch

abbrev pub best : (ℤ → ℤ → ℤ) → List Datum → Answer
best f (integer m ∷ xs) = chosen f m xs
best f _ = raises type_mismatch

-- ---- the functions

pub data PureFunction : Type 0 where
  typeof_row tostr_row toliteral_row toint_row toobj_row equal_row length_row is_member_row listappend_row listinsert_row listdelete_row listset_row setadd_row setremove_row index_row rindex_row strcmp_row strsub_row abs_row min_row max_row : PureFunction

-- how many arguments it takes
abbrev pub takes : PureFunction → ℕ → Bool
takes typeof_row n = n == 1
takes tostr_row n = true
takes toliteral_row n = n == 1
takes toint_row n = n == 1
takes toobj_row n = n == 1
takes equal_row n = n == 2
takes length_row n = n == 1
takes is_member_row n = n == 2
takes listappend_row n = nat_le 2 n && nat_le n 3
takes listinsert_row n = nat_le 2 n && nat_le n 3
takes listdelete_row n = n == 2
takes listset_row n = n == 3
takes setadd_row n = n == 2
takes setremove_row n = n == 2
takes index_row n = nat_le 2 n && nat_le n 3
takes rindex_row n = nat_le 2 n && nat_le n 3
takes strcmp_row n = n == 2
takes strsub_row n = nat_le 3 n && nat_le n 4
takes abs_row n = n == 1
takes min_row n = nat_le 1 n
takes max_row n = nat_le 1 n

abbrev pub of_one : (Datum → Answer) → List Datum → Answer
of_one f (x ∷ []) = f x
of_one f _ = raises wrong_argument_count

abbrev pub of_two : (Datum → Datum → Answer) → List Datum → Answer
of_two f (x ∷ y ∷ []) = f x y
of_two f _ = raises wrong_argument_count

abbrev pub of_three : (Datum → Datum → Datum → Answer) → List Datum → Answer
of_three f (x ∷ y ∷ z ∷ []) = f x y z
of_three f _ = raises wrong_argument_count

-- what it answers for as many arguments as it takes
abbrev pub row : PureFunction → List Datum → Answer
row typeof_row xs = of_one (λ x. gives (integer (pos (kind_of x)))) xs
row tostr_row xs = gives (text (joined_texts xs))
row toliteral_row xs = of_one (λ x. gives (text (literal x))) xs
row toint_row xs = of_one to_number xs
row toobj_row xs = of_one to_object xs
row equal_row xs = of_two (λ x y. gives (truth (same x y))) xs
row length_row xs = of_one length_of xs
row is_member_row xs = of_two is_member xs
row listappend_row xs = listappend xs
row listinsert_row xs = listinsert xs
row listdelete_row xs = of_two listdelete xs
row listset_row xs = of_three listset xs
row setadd_row xs = of_two setadd xs
row setremove_row xs = of_two setremove xs
row index_row xs = index xs
row rindex_row xs = rindex xs
row strcmp_row xs = of_two strcmp xs
row strsub_row xs = strsub xs
row abs_row xs = of_one absolute xs
row min_row xs = best int_min xs
row max_row xs = best int_max xs

-- what a call answers
abbrev pub call_value : PureFunction → List Datum → Answer
call_value f xs = if takes f (length xs) then limited_answer (row f xs) else raises wrong_argument_count
