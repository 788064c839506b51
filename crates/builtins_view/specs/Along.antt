-- What stands along a line of ancestors: names of properties, and an object's slots of them.
use Rattle.std.specs.Prelude.{ℤ, List, [], ◌∷◌, ◌++◌, not, filter, Option, Some, None}
use Rattle.spec_value.specs.Datum.{Text, fold_case}
use Rattle.spec_value.specs.Table.{Named}
use Rattle.spec_world.specs.World.{World, Slot}
use Rattle.spec_world.specs.Inherit.{slot_at}
use Rattle.spec_world.specs.WellFormed.{lists}
use Rattle.spec_world.specs.Questions.{defines_at}

abbrev pub given : Option (List Text) → List Text
given None = []
given (Some ts) = ts

-- the names that these objects define, in their order and as they are spelled
abbrev pub names_on : World → List ℤ → List Text
names_on w [] = []
names_on w (o ∷ os) = given (defines_at w o) ++ names_on w os

-- those of the one list that are not in the other
abbrev pub but_for : List ℤ → List ℤ → List ℤ
but_for others os = filter (λ o. not (lists others o)) os

abbrev pub with_found : Text → Option Slot → List (Text × Slot) → List (Text × Slot)
with_found p None es = es
with_found p (Some s) es = (p, s) ∷ es

-- an object's slots of these names, where it has them
abbrev pub slots_of : World → ℤ → List Text → List (Text × Slot)
slots_of w o [] = []
slots_of w o (p ∷ ps) = with_found p (slot_at w o p) (slots_of w o ps)

-- by folded names
abbrev pub folded : List (Text × Slot) → Named Slot
folded [] = []
folded (e ∷ es) = (fold_case e.0, e.1) ∷ folded es
