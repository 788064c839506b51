-- Lists with other items in the place of a part: what stays before it, those items, and what stays from its end on.
use Rattle.std.specs.Prelude.{ℕ}
use Rattle.spec_value.specs.Datum.{Datum, list, Data, joined}
use Rattle.spec_value.specs.Places.{first_items, later_items}

abbrev pub with_part : Data → ℕ → ℕ → Data → Data
with_part xs n m ys = joined (first_items n xs) (joined ys (later_items m xs))

abbrev pub list_with_part : Datum → ℕ → ℕ → Data → Datum
list_with_part (list xs) n m ys = list (with_part xs n m ys)
list_with_part d n m ys = d
