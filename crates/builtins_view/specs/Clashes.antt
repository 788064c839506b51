-- Whether one of several objects defines a property that another one has.
use Rattle.std.specs.Prelude.{ℤ, Bool, false, ◌||◌, List, [], ◌∷◌, is_some, Option, Some, None}
use Rattle.std.specs.List.{list_any}
use Rattle.spec_value.specs.Datum.{Text}
use Rattle.spec_world.specs.World.{World}
use Rattle.spec_world.specs.Inherit.{slot_at}
use Rattle.spec_world.specs.Questions.{defines_at}

abbrev pub has_slot : World → ℤ → Text → Bool
has_slot w o p = is_some (slot_at w o p)

abbrev pub any_slot : World → ℤ → Option (List Text) → Bool
any_slot w o None = false
any_slot w o (Some ts) = list_any (has_slot w o) ts

abbrev pub any_clashes : World → ℤ → List ℤ → Bool
any_clashes w o [] = false
any_clashes w o (d ∷ ds) = any_slot w o (defines_at w d) || any_clashes w o ds
