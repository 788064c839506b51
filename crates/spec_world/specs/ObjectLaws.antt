-- Laws of the changes of objects: what a world's objects agree on, they agree on afterwards.
use Rattle.std.specs.Prelude.{IsTrue, ◌≡◌, ◌⊎◌, ℤ, pos, int_le, true, false, map, Some, None, is_some}
use Rattle.spec_value.specs.Datum.{Text, fold_case}
use Rattle.spec_world.specs.World.{World, Object, Slot, object_at}
use Rattle.spec_world.specs.Inherit.{slot_at, with_slot}
use Rattle.spec_world.specs.WellFormed.{has_name}
use Rattle.spec_world.specs.Agreeing.{ObjectsAgree}
use Rattle.spec_world.specs.Families.{nowhere, change_object, is_below, next_object, created, reparented, clashes, recycled}
use Rattle.spec_world.specs.Whereabouts.{is_inside, moved}
use Rattle.spec_world.specs.Members.{property_added, property_deleted}

-- #-1, or an object that is there
abbrev pub IsPlace : World → ℤ → Type 0
IsPlace w p = (p ≡ nowhere) ⊎ IsTrue (is_some (object_at w p))

-- all of an object but its relatives and its properties
pub record SameRelations (x y : Object) : Type 0 where
  pub parent : y.header.parent ≡ x.header.parent
  pub location : y.header.location ≡ x.header.location
  pub children : y.children ≡ x.children
  pub contents : y.contents ≡ x.contents
  pub defines : y.defines ≡ x.defines
  pub slots : y.slots ≡ x.slots

abbrev pub Defines : Object → Text → Type 0
Defines x p = IsTrue (has_name (map fold_case x.defines) (fold_case p))

-- its name, its owner, its flags and bits, and its verbs
abbrev pub AttributesKeep : Type 0
AttributesKeep =
    (w : World) (o : ℤ) (f : Object → Object) → ObjectsAgree w → ((x : Object) → SameRelations x (f x)) → ObjectsAgree (change_object w o f)

-- a slot that is there, and is clear only where the property is not defined
abbrev pub ContentKeeps : Type 0
ContentKeeps =
    (w : World) (o : ℤ) (p : Text) (s t : Slot) → ObjectsAgree w → slot_at w o p ≡ Some s
    → ((x : Object) → object_at w o ≡ Some x → Defines x p → IsTrue (is_some t.content)) → ObjectsAgree (with_slot w o p t)

-- a property that is known neither above nor below
abbrev pub PropertyAddedKeeps : Type 0
PropertyAddedKeeps =
    (w : World) (o : ℤ) (p : Text) (s : Slot) (x : Object) → object_at w o ≡ Some x → ObjectsAgree w → IsTrue (is_some s.content) → slot_at w o p ≡ None
    → ((q : ℤ) (y : Object) → object_at w q ≡ Some y → is_below w o q ≡ true → has_name (map fold_case y.defines) (fold_case p) ≡ false) → ObjectsAgree (property_added w o p s)

-- a property of the object's own
abbrev pub PropertyDeletedKeeps : Type 0
PropertyDeletedKeeps = (w : World) (o : ℤ) (p : Text) (x : Object) → object_at w o ≡ Some x → ObjectsAgree w → Defines x p → ObjectsAgree (property_deleted w o p)

abbrev pub CreatedKeeps : Type 0
CreatedKeeps = (w : World) (p owner : ℤ) → ObjectsAgree w → IsTrue (int_le (next_object w) (pos 999999)) → IsPlace w p → ObjectsAgree (created w p owner)

abbrev pub MovedKeeps : Type 0
MovedKeeps = (w : World) (what place : ℤ) (x : Object) → ObjectsAgree w → object_at w what ≡ Some x → IsPlace w place → is_inside w what place ≡ false → ObjectsAgree (moved w what place)

abbrev pub ReparentedKeeps : Type 0
ReparentedKeeps =
    (w : World) (o p : ℤ) (x : Object) → object_at w o ≡ Some x → ObjectsAgree w → IsPlace w p → is_below w o p ≡ false → clashes w o p ≡ false → ObjectsAgree (reparented w o p)

abbrev pub RecycledKeeps : Type 0
RecycledKeeps = (w : World) (o : ℤ) → ObjectsAgree w → ObjectsAgree (recycled w o)
