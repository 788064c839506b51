-- What indexes and ranges answer (Programmer's Manual, "Indexing into Lists and Strings", "Replacing an Element or a Range").
use Rattle.std.specs.Prelude.{ℕ, suc, ◌-◌, min, ℤ, pos, negsuc, ◌||◌, if◌then◌else◌, [], ◌∷◌, ◌++◌, length, take, drop, slice_get, slice_set, Option, Some, None}
use lib.Signed.{lt_z as int_lt}
use Rattle.spec_value.specs.Datum.{Text, Datum, integer, text, list, Data, joined, type_mismatch, range_error, invalid_argument}
use Rattle.spec_value.specs.Answer.{Answer, gives, raises, limited}
use Rattle.spec_value.specs.Places.{item_count, item_at, with_item, first_items, later_items}

-- 0 for a negative number
abbrev pub natural : ℤ → ℕ
natural (pos n) = n
natural (negsuc n) = 0

-- a place that is counted from 1, among so many
abbrev pub place_in : ℕ → ℤ → Option ℕ
place_in n i = if int_lt i (pos 1) || int_lt (pos n) i then None else Some (natural i - 1)

-- ---- reading

abbrev pub given : Option Datum → Answer
given None = raises range_error
given (Some d) = gives d

abbrev pub character : Option ℕ → Answer
character None = raises range_error
character (Some c) = gives (text (c ∷ []))

abbrev pub text_index : Text → Option ℕ → Answer
text_index t None = raises range_error
text_index t (Some i) = character (slice_get t i)

abbrev pub list_index : Data → Option ℕ → Answer
list_index xs None = raises range_error
list_index xs (Some i) = given (item_at xs i)

abbrev pub index_value : Datum → Datum → Answer
index_value (text t) (integer i) = text_index t (place_in (length t) i)
index_value (list xs) (integer i) = list_index xs (place_in (item_count xs) i)
index_value _ _ = raises type_mismatch

-- how many places are left out before a range, and where it ends; a range whose first place is above its last is empty
abbrev pub part_of : ℕ → ℤ → ℤ → Option (ℕ × ℕ)
part_of n a b =
    if int_lt b a then Some (0, 0) else (if int_lt a (pos 1) || int_lt (pos n) b then None else Some (natural a - 1, natural b))

abbrev pub text_part : Text → Option (ℕ × ℕ) → Answer
text_part t None = raises range_error
text_part t (Some p) = gives (text (take (p.1 - p.0) (drop p.0 t)))

abbrev pub list_part : Data → Option (ℕ × ℕ) → Answer
list_part xs None = raises range_error
list_part xs (Some p) = gives (list (first_items (p.1 - p.0) (later_items p.0 xs)))

abbrev pub range_value : Datum → Datum → Datum → Answer
range_value (text t) (integer a) (integer b) = text_part t (part_of (length t) a b)
range_value (list xs) (integer a) (integer b) = list_part xs (part_of (item_count xs) a b)
range_value _ _ _ = raises type_mismatch

-- ---- writing

abbrev pub text_with : Text → Option ℕ → Text → Answer
text_with t None u = raises range_error
text_with t (Some i) [] = raises invalid_argument
text_with t (Some i) (c ∷ []) = limited (text (slice_set t i c))
text_with t (Some i) (c ∷ d ∷ u) = raises invalid_argument

abbrev pub list_with_item : Data → Option ℕ → Datum → Answer
list_with_item xs None v = raises range_error
list_with_item xs (Some i) v = limited (list (with_item xs i v))

abbrev pub set_index_value : Datum → Datum → Datum → Answer
set_index_value (text t) (integer i) (text u) = text_with t (place_in (length t) i) u
set_index_value (list xs) (integer i) v = list_with_item xs (place_in (item_count xs) i) v
set_index_value _ _ _ = raises type_mismatch

-- how many places stay before a range that is replaced, and how many do not stay behind it
abbrev pub cut_of : ℕ → ℤ → ℤ → Option (ℕ × ℕ)
cut_of n a b = if int_lt (pos (suc n)) a || int_lt b (pos 0) then None else Some (natural a - 1, min (natural b) n)

abbrev pub text_with_part : Text → Option (ℕ × ℕ) → Text → Answer
text_with_part t None u = raises range_error
text_with_part t (Some p) u = limited (text (take p.0 t ++ (u ++ drop p.1 t)))

abbrev pub list_with_part : Data → Option (ℕ × ℕ) → Data → Answer
list_with_part xs None ys = raises range_error
list_with_part xs (Some p) ys = limited (list (joined (first_items p.0 xs) (joined ys (later_items p.1 xs))))

abbrev pub set_range_value : Datum → Datum → Datum → Datum → Answer
set_range_value (text t) (integer a) (integer b) (text u) = text_with_part t (cut_of (length t) a b) u
set_range_value (list xs) (integer a) (integer b) (list ys) = list_with_part xs (cut_of (item_count xs) a b) ys
set_range_value _ _ _ _ = raises type_mismatch
