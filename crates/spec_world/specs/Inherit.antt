-- Inheritance (Programmer's Manual, "The LambdaMOO Database": objects and properties): ancestors, and the value of a property.
use Rattle.std.specs.Prelude.{◌≡◌, ℕ, zero, suc, ℤ, pos, ◌+ℤ◌, nat_abs, List, [], ◌∷◌, Option, Some, None}
use Rattle.spec_value.specs.Datum.{Datum, Text, fold_case}
use Rattle.spec_value.specs.Table.{named, with_name}
use Rattle.spec_world.specs.World.{World, Object, Slot, object_at, with_object}

-- the objects from one upwards along parent, to the first that is not there
abbrev pub IsLine : World → ℤ → List ℤ → Type 0
IsLine w o [] = object_at w o ≡ None
IsLine w o (p ∷ ps) = (p ≡ o) × ((x : Object) × (object_at w o ≡ Some x) × IsLine w x.header.parent ps)

abbrev pub line_onto : (ℤ → List ℤ) → ℤ → Option Object → List ℤ
line_onto above o None = []
line_onto above o (Some x) = o ∷ above x.header.parent

-- of at most n objects
unfoldable pub line : ℕ → World → ℤ → List ℤ
line zero w o = []
line (suc n) w o = line_onto (line n w) o (object_at w o)

-- objects are numbered from 0 to the greatest, so no line without a repetition is longer
abbrev pub line_bound : World → ℕ
line_bound w = nat_abs (w.greatest +ℤ pos 1)

-- an object, its parent, the parent's parent, and so on
unfoldable pub ancestors : World → ℤ → List ℤ
ancestors w o = line (line_bound w) w o

abbrev pub slot_of : Option Object → Text → Option Slot
slot_of None p = None
slot_of (Some x) p = named x.slots (fold_case p)

abbrev pub slot_at : World → ℤ → Text → Option Slot
slot_at w o p = slot_of (object_at w o) p

abbrev pub content_of : Option Slot → Option Datum
content_of None = None
content_of (Some s) = s.content

abbrev pub or_else : Option Datum → Option Datum → Option Datum
or_else None later = later
or_else (Some v) later = Some v

-- of the first slot along a line that is not clear
unfoldable pub first_value : World → List ℤ → Text → Option Datum
first_value w [] p = None
first_value w (o ∷ os) p = or_else (content_of (slot_at w o p)) (first_value w os p)

unfoldable pub property_value : World → ℤ → Text → Option Datum
property_value w o p = first_value w (ancestors w o) p

abbrev pub put_slot : World → ℤ → Text → Slot → Option Object → World
put_slot w o p s None = w
put_slot w o p s (Some x) = with_object w o (record x { slots = with_name x.slots (fold_case p) s })

-- the world with another slot for a property of an object
unfoldable pub with_slot : World → ℤ → Text → Slot → World
with_slot w o p s = put_slot w o p s (object_at w o)
