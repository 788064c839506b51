-- Changes of a whole part of an object, of which a later one takes the place of an earlier one.
use Rattle.std.specs.Prelude.{◌≡◌, ◌≢◌, IsTrue, ◌==◌, ℕ, ℤ, Bool, true, false, not, ◌&&◌, ◌||◌, List, is_some, slice_set}
use Rattle.std.specs.Ordering.{int_eq}
use Rattle.spec_value.specs.Datum.{Text, fold_case}
use Rattle.spec_world.specs.World.{World}
use Rattle.spec_world.specs.Questions.{Part, new_header, new_children, new_contents, new_defines, new_verbs, new_slot, Change, new_part, new_value, new_object, apply, apply_all}

-- which part it is
abbrev pub facet : Part → ℕ
facet (new_header h) = 0
facet (new_children os) = 1
facet (new_contents os) = 2
facet (new_defines ts) = 3
facet (new_verbs vs) = 4
facet (new_slot p s) = 5

-- a change of this part of this object
abbrev pub is_of_facet : ℤ → ℕ → Change → Bool
is_of_facet o f (new_part q a) = int_eq q o && (facet a == f)
is_of_facet o f _ = false

-- a change beside one of this part of this object: they can be made in either order
abbrev pub is_beside_facet : ℤ → ℕ → Change → Bool
is_beside_facet o f (new_part q a) = not (int_eq q o) || not (facet a == f)
is_beside_facet o f (new_object q x) = not (int_eq q o) && is_some x
is_beside_facet o f _ = true

-- two slots, by their objects and names
abbrev pub AreTwo : ℤ → Text → ℤ → Text → Type 0
AreTwo q r o p = q ≡ o → fold_case r ≢ fold_case p

-- a change beside another value of this slot: they can be made in either order
abbrev pub IsBesideValue : ℤ → Text → Change → Type 0
IsBesideValue o p (new_part q a) = q ≡ o → (facet a == 5) ≡ false
IsBesideValue o p (new_value q r v) = AreTwo q r o p
IsBesideValue o p (new_object q x) = (q ≢ o) × IsTrue (is_some x)
IsBesideValue o p _ = Unit {0}

-- changes do what others do, and then one more
abbrev pub DoesLast : Change → List Change → List Change → Type 0
DoesLast c old new = (w : World) → apply_all new w ≡ apply c (apply_all old w)

-- a change does the same before others as after them
abbrev pub StandsBefore : Change → List Change → Type 0
StandsBefore c cs = (w : World) → apply_all cs (apply c w) ≡ apply c (apply_all cs w)

-- changes, of which one is another one, do what they did, and then that one
abbrev pub TakesPlace : Change → ℕ → List Change → Type 0
TakesPlace c n cs = (w : World) → apply_all (slice_set cs n c) w ≡ apply c (apply_all cs w)
