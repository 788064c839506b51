-- What the objects of a world agree on, told object by object: of each its own names and slots, those of its parent, and a rank.
use Rattle.std.specs.Prelude.{◌≡◌, ◌⊎◌, ◌↔◌, ◌<◌, ℕ, ℤ, Bool, not, ◌&&◌, List, [], ◌++◌, map, Option, Some, None, IsTrue, is_none}
use Rattle.std.specs.List.{list_all}
use Rattle.spec_value.specs.Datum.{Text, fold_case}
use Rattle.spec_world.specs.World.{World, Object, object_at}
use Rattle.spec_world.specs.Inherit.{line_bound}
use Rattle.spec_world.specs.WellFormed.{OfEachObject, comes_out, number_fits, has_no_cycle, line_names_once, slots_agree, has_name, names_once, slot_names}

-- ---- no cycle

-- from each object one comes out at once, or to an object of a lower rank
abbrev pub Falls : World → (Object → ℤ) → (ℤ → ℕ) → Type 0
Falls w up rank = (o : ℤ) (x : Object) → object_at w o ≡ Some x → IsTrue (is_none (object_at w (up x))) ⊎ (rank (up x) < rank o)

abbrev pub ends_along : (Object → ℤ) → World → ℤ → Object → Bool
ends_along up w o x = comes_out up (line_bound w) w o

-- that is so where there are no cycles, along parent as along location, and nowhere else
abbrev pub RanksTell : Type 0
RanksTell = (w : World) (up : Object → ℤ) → OfEachObject w number_fits → (OfEachObject w (ends_along up) ↔ ((rank : ℤ → ℕ) × Falls w up rank))

-- ---- the slots of an object and of its parent

abbrev pub own_names : Object → List Text
own_names x = map fold_case x.defines

abbrev pub names_of : Option Object → List Text
names_of None = []
names_of (Some x) = slot_names x

abbrev pub inherited_names : World → Object → List Text
inherited_names w x = names_of (object_at w x.header.parent)

-- what it defines it defines once, and its parent has no such slot; it has a slot for each of these and of its parent's, and no other
abbrev pub slots_follow : World → ℤ → Object → Bool
slots_follow w o x =
    (names_once (own_names x) && list_all (λ t. not (has_name (inherited_names w x) t)) (own_names x))
    && (list_all (has_name (own_names x ++ inherited_names w x)) (slot_names x) && list_all (has_name (slot_names x)) (own_names x ++ inherited_names w x))

-- with no cycle of parents, that is all that names and slots along a line agree on
abbrev pub ParentsTell : Type 0
ParentsTell =
    (w : World) → OfEachObject w number_fits → OfEachObject w has_no_cycle
    → ((OfEachObject w line_names_once × OfEachObject w slots_agree) ↔ OfEachObject w slots_follow)
