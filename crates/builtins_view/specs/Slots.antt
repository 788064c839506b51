-- What objects get with a property.
use Rattle.std.specs.Prelude.{ℤ, Bool, false, ◌||◌, List, [], ◌∷◌, map, if◌then◌else◌, Option, Some, None}
use Rattle.std.specs.Ordering.{int_eq}
use Rattle.spec_value.specs.Datum.{Text, fold_case}
use Rattle.spec_world.specs.World.{World, Object, Slot}
use Rattle.spec_world.specs.WellFormed.{has_name}
use Rattle.spec_world.specs.Families.{heir_slot}
use Rattle.spec_world.specs.Members.{with_own_slot}
use Rattle.spec_world.specs.Questions.{defines_at}

-- the object that defines a property has this slot, and another one with this owner has an heir's
abbrev pub slot_for : ℤ → Slot → ℤ → ℤ → Slot
slot_for o s d owner = if int_eq d o then s else heir_slot owner s

-- each gets its slot
abbrev pub getting : ℤ → Text → Slot → ℤ → Object → Object
getting o p s d x = with_own_slot x p (slot_for o s d x.header.owner)

-- whether one of these defines a property of the name
abbrev pub among_names : Option (List Text) → Text → Bool
among_names None p = false
among_names (Some ts) p = has_name (map fold_case ts) (fold_case p)

abbrev pub any_defines : World → Text → List ℤ → Bool
any_defines w p [] = false
any_defines w p (d ∷ ds) = among_names (defines_at w d) p || any_defines w p ds
