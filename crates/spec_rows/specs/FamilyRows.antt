-- Worked rows, true by computation: objects that are made, get another parent, move and go, and what becomes of their properties.
use Rattle.std.specs.Prelude.{◌≡◌, ℤ, pos, neg_ℤ, List, [], ◌∷◌, Bool, true, false, Option, Some, None, codes, is_none}
use Rattle.spec_value.specs.Datum.{integer}
use Rattle.spec_value.specs.Table.{with}
use Rattle.spec_world.specs.World.{World, Object, Slot, object_at}
use Rattle.spec_world.specs.Inherit.{slot_at, property_value}
use Rattle.spec_world.specs.Families.{child_of, created, reparented, clashes, recycled}
use Rattle.spec_world.specs.Whereabouts.{is_inside, moved}
use Rattle.spec_world.specs.Members.{property_added, property_deleted, verb_added, verb_deleted}
use Rattle.spec_world.specs.Naming.{contents_of, location_of}
use Rattle.spec_fixture.specs.Fixture.{fixture, box, count_verb, box_look_verb, put_verb, n_slot}

abbrev pub children_of : World → ℤ → Option (List ℤ)
children_of w o = of (object_at w o)
  where
    of : Option Object → Option (List ℤ)
    of None = None
    of (Some x) = Some x.children

-- the box is Ann's
abbrev pub anns_box : World
anns_box = record fixture { objects = with fixture.objects (pos 6) (record box { header = record (box.header) { owner = pos 4 } }) }

abbrev pub five : Bool → Slot
five changeable = record { content = Some (integer (pos 5)); owner = pos 2; readable = true; writable = false; changeable = changeable }

-- the box is a child of the thing, which defines p
abbrev pub with_p : Bool → World
with_p changeable = property_added anns_box (pos 7) (codes "P") (five changeable)

-- ---- properties

-- under the bit c the heir's owner owns what it inherits
abbrev pub HeirOwns : Type 0
HeirOwns =
    (slot_at (with_p true) (pos 6) (codes "p") ≡ Some (record (five true) { content = None; owner = pos 4 }))
    × (property_value (with_p true) (pos 6) (codes "p") ≡ Some (integer (pos 5)))

abbrev pub DefinerOwns : Type 0
DefinerOwns = slot_at (with_p false) (pos 6) (codes "p") ≡ Some (record (five false) { content = None })

abbrev pub AddedAndDeleted : Type 0
AddedAndDeleted = property_deleted (with_p true) (pos 7) (codes "p") ≡ anns_box

-- ---- a new object

abbrev pub NewChild : Type 0
NewChild =
    let w : World = created (with_p true) (pos 7) (pos 5) in
    (w.greatest ≡ pos 8) × (children_of w (pos 7) ≡ Some (pos 6 ∷ pos 8 ∷ [])) × (slot_at w (pos 8) (codes "p") ≡ Some (record (five true) { content = None; owner = pos 5 }))
    × (property_value w (pos 8) (codes "p") ≡ Some (integer (pos 5)))

abbrev pub NewOrphan : Type 0
NewOrphan = object_at (created fixture (neg_ℤ (pos 1)) (pos 2)) (pos 8) ≡ Some (child_of fixture (neg_ℤ (pos 1)) (pos 2))

-- ---- another parent

-- the box loses the property of the thing, and inherits that of the room, clear
abbrev pub OtherFamily : Type 0
OtherFamily =
    let w : World = reparented (with_p true) (pos 6) (pos 3) in
    (children_of w (pos 7) ≡ Some []) × (children_of w (pos 3) ≡ Some (pos 6 ∷ [])) × (slot_at w (pos 6) (codes "p") ≡ None)
    × (slot_at w (pos 6) (codes "n") ≡ Some (record (n_slot (pos 0)) { content = None })) × (property_value w (pos 6) (codes "n") ≡ Some (integer (pos 0)))

-- what is inherited from a common ancestor is kept: the root defines p, and the box has its own value
abbrev pub root_with_p : World
root_with_p =
    let w : World = property_added anns_box (pos 1) (codes "p") (five true) in
    record w { objects = with w.objects (pos 6) (record box { header = record (box.header) { owner = pos 4 }; slots = (codes "p", record (five true) { content = Some (integer (pos 6)) }) ∷ [] }) }

abbrev pub KeptContent : Type 0
KeptContent = property_value (reparented root_with_p (pos 6) (pos 3)) (pos 6) (codes "p") ≡ Some (integer (pos 6))

-- a property of the same name on both lines is in the way
abbrev pub Clashes : Type 0
Clashes =
    let w : World = property_added anns_box (pos 6) (codes "N") (five true) in
    (clashes w (pos 6) (pos 3) ≡ true) × (clashes w (pos 7) (pos 3) ≡ true) × (clashes w (pos 6) (pos 1) ≡ false)

-- ---- an object that goes

abbrev pub GoneThing : Type 0
GoneThing =
    let w : World = recycled (with_p true) (pos 7) in
    (is_none (object_at w (pos 7)) ≡ true) × (children_of w (pos 1) ≡ Some (pos 0 ∷ pos 2 ∷ pos 3 ∷ pos 4 ∷ pos 5 ∷ pos 6 ∷ [])) × (slot_at w (pos 6) (codes "p") ≡ None)
    × (w.greatest ≡ pos 7)

abbrev pub GoneRoom : Type 0
GoneRoom =
    let w : World = recycled fixture (pos 3) in
    (location_of (object_at w (pos 4)) ≡ neg_ℤ (pos 1)) × (location_of (object_at w (pos 6)) ≡ neg_ℤ (pos 1))
    × (children_of w (pos 1) ≡ Some (pos 0 ∷ pos 2 ∷ pos 4 ∷ pos 5 ∷ pos 7 ∷ []))

-- ---- another place

abbrev pub BoxToAnn : Type 0
BoxToAnn =
    let w : World = moved fixture (pos 6) (pos 4) in
    (contents_of (object_at w (pos 3)) ≡ pos 4 ∷ pos 5 ∷ []) × (contents_of (object_at w (pos 4)) ≡ pos 6 ∷ []) × (location_of (object_at w (pos 6)) ≡ pos 4)

-- last in the contents, also where it was before
abbrev pub LastInPlace : Type 0
LastInPlace = contents_of (object_at (moved fixture (pos 4) (pos 3)) (pos 3)) ≡ pos 5 ∷ pos 6 ∷ pos 4 ∷ []

abbrev pub Inside : Type 0
Inside =
    (is_inside fixture (pos 3) (pos 6) ≡ true) × (is_inside fixture (pos 6) (pos 6) ≡ true) × (is_inside fixture (pos 6) (pos 3) ≡ false)
    × (is_inside fixture (pos 6) (neg_ℤ (pos 1)) ≡ false)

-- ---- verbs

abbrev pub VerbsComeAndGo : Type 0
VerbsComeAndGo =
    let w : World = verb_added fixture (pos 6) count_verb in
    (object_at w (pos 6) ≡ Some (record box { verbs = box_look_verb ∷ put_verb ∷ count_verb ∷ [] })) × (verb_deleted w (pos 6) 2 ≡ fixture)
