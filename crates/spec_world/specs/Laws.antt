-- Laws of worlds, in the subject's own words.
use Rattle.std.specs.Prelude.{IsTrue, ◌≡◌, ◌≢◌, ℤ, Some, is_some}
use Rattle.spec_value.specs.Datum.{Datum, Text, fold_case}
use Rattle.spec_value.specs.Table.{with_name}
use Rattle.spec_world.specs.World.{World, Object, Slot, object_at}
use Rattle.spec_world.specs.Inherit.{IsLine, ancestors, property_value, slot_at, with_slot}
use Rattle.spec_world.specs.WellFormed.{IsWellFormed}

-- ---- the change of one slot

-- a slot reads as it was written
abbrev pub SlotIsSet : Type 0
SlotIsSet =
    (w : World) (o : ℤ) (x : Object) (p : Text) (s : Slot)
    → object_at w o ≡ Some x → slot_at (with_slot w o p s) o p ≡ Some s

-- the slots of other names are as before, whatever the case of their letters
abbrev pub OtherNamesStay : Type 0
OtherNamesStay =
    (w : World) (o : ℤ) (p r : Text) (s : Slot)
    → (fold_case p ≢ fold_case r) → slot_at (with_slot w o p s) o r ≡ slot_at w o r

-- so is all else of the object
abbrev pub ObjectStays : Type 0
ObjectStays =
    (w : World) (o : ℤ) (x : Object) (p : Text) (s : Slot)
    → object_at w o ≡ Some x → object_at (with_slot w o p s) o ≡ Some (record x { slots = with_name x.slots (fold_case p) s })

-- each other object
abbrev pub OtherObjectsStay : Type 0
OtherObjectsStay = (w : World) (o q : ℤ) (p : Text) (s : Slot) → (o ≢ q) → object_at (with_slot w o p s) q ≡ object_at w q

-- and the rest of the world
abbrev pub WorldStays : Type 0
WorldStays = (w : World) (o : ℤ) (p : Text) (s : Slot) → record (with_slot w o p s) { objects = w.objects } ≡ w

-- ---- well-formed worlds stay well formed

-- a slot that is there takes another value
abbrev pub SlotKeeps : Type 0
SlotKeeps =
    (w : World) (o : ℤ) (p : Text) (s t : Slot)
    → IsWellFormed w → slot_at w o p ≡ Some s → IsTrue (is_some t.content) → IsWellFormed (with_slot w o p t)

-- ---- inheritance

-- in a well-formed world the ancestors go up along parent to the first that is not there
abbrev pub AncestorsAreALine : Type 0
AncestorsAreALine = (w : World) (o : ℤ) → IsWellFormed w → IsLine w o (ancestors w o)

-- and a slot that is not clear gives its own value
abbrev pub OwnValue : Type 0
OwnValue =
    (w : World) (o : ℤ) (p : Text) (s : Slot) (v : Datum)
    → IsWellFormed w → slot_at w o p ≡ Some s → s.content ≡ Some v → property_value w o p ≡ Some v
