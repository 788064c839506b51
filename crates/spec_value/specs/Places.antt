-- Places in lists (Programmer's Manual, "Indexing into Lists and Strings"), counted from 0 here.
use Rattle.std.specs.Prelude.{ℕ, zero, suc, Option, Some, None}
use Rattle.spec_value.specs.Datum.{Datum, list, Data, no_data, item, append}

abbrev pub item_count : Data → ℕ
item_count no_data = 0
item_count (item x xs) = suc (item_count xs)

abbrev pub item_at : Data → ℕ → Option Datum
item_at no_data i = None
item_at (item x xs) zero = Some x
item_at (item x xs) (suc i) = item_at xs i

-- another item in its place
abbrev pub with_item : Data → ℕ → Datum → Data
with_item no_data i y = no_data
with_item (item x xs) zero y = item y xs
with_item (item x xs) (suc i) y = item x (with_item xs i y)

-- one more item before that place, or at the end
abbrev pub inserted : Data → ℕ → Datum → Data
inserted no_data i y = item y no_data
inserted (item x xs) zero y = item y (item x xs)
inserted (item x xs) (suc i) y = item x (inserted xs i y)

abbrev pub without : Data → ℕ → Data
without no_data i = no_data
without (item x xs) zero = xs
without (item x xs) (suc i) = item x (without xs i)

-- the first items, and those behind them
abbrev pub first_items : ℕ → Data → Data
first_items zero xs = no_data
first_items (suc n) no_data = no_data
first_items (suc n) (item x xs) = item x (first_items n xs)

abbrev pub later_items : ℕ → Data → Data
later_items zero xs = xs
later_items (suc n) no_data = no_data
later_items (suc n) (item x xs) = later_items n xs

-- ---- the same of a value that is a list

abbrev pub length_of_list : Datum → ℕ
length_of_list (list xs) = item_count xs
length_of_list d = 0

abbrev pub list_item : Datum → ℕ → Option Datum
list_item (list xs) i = item_at xs i
list_item d i = None

abbrev pub list_with : Datum → ℕ → Datum → Datum
list_with (list xs) i y = list (with_item xs i y)
list_with d i y = d

abbrev pub list_inserted : Datum → ℕ → Datum → Datum
list_inserted (list xs) i y = list (inserted xs i y)
list_inserted d i y = d

abbrev pub list_without : Datum → ℕ → Datum
list_without (list xs) i = list (without xs i)
list_without d i = d

abbrev pub list_appended : Datum → Datum → Datum
list_appended (list xs) y = list (append xs y)
list_appended d y = d
