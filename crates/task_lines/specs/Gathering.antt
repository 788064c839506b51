-- Variables that are read one by one: into the slots of a program's names, or to the others.
use Rattle.std.specs.Prelude.{◌≡◌, ℕ, List, [], ◌∷◌, ◌++◌, Option, Some, None, slice_get, slice_set, if◌then◌else◌, codes}
use Rattle.spec_value.specs.Datum.{Datum, Text, text}
use Rattle.spec_value.specs.Literal.{literal}
use Rattle.spec_value.specs.Table.{Named, named}
use Rattle.spec_world.specs.Checkpoint.{fields}
use Rattle.spec_world.specs.WellFormed.{has_name}
use Rattle.moo_code.specs.Slots.{slot_of, in_slot}

-- the first value that is there
abbrev pub first_of : Option Datum → Option Datum → Option Datum
first_of None o = o
first_of (Some v) o = Some v

-- the value that a name has so far
abbrev pub value_now : List Text → List (Option Datum) → List (Text × Datum) → Text → Option Datum
value_now names slots further q = if has_name names q then in_slot (slice_get slots (slot_of names q)) else named further q

-- with those that are left to read, they are a table
abbrev pub Gathers : List Text → List (Option Datum) → List (Text × Datum) → List (Text × Datum) → Named Datum → Type 0
Gathers names slots further left table = (q : Text) → first_of (value_now names slots further q) (named left q) ≡ named table q

-- ---- one more

abbrev pub variable_line : Text × Datum → Text
variable_line e = fields (codes "var" ∷ literal (text e.0) ∷ literal e.1 ∷ [])

-- into its slot, or to the others
abbrev pub slots_with : Option ℕ → List (Option Datum) → Datum → List (Option Datum)
slots_with None slots v = slots
slots_with (Some i) slots v = slice_set slots i (Some v)

abbrev pub further_with : Option ℕ → List (Text × Datum) → Text × Datum → List (Text × Datum)
further_with None further e = further ++ e ∷ []
further_with (Some i) further e = further
