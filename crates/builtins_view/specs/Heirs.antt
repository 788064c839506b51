-- What an object and all below it lose and inherit, name by name.
use Rattle.std.specs.Prelude.{ℤ, List, [], ◌∷◌, Option, Some, None}
use Rattle.spec_value.specs.Datum.{Text}
use Rattle.spec_world.specs.World.{World, Slot}
use Rattle.spec_world.specs.Inherit.{slot_at, ancestors}
use Rattle.spec_world.specs.Families.{change_object, heir_slot}
use Rattle.spec_world.specs.Members.{with_own_slot}
use Rattle.rules.specs.InTurn.{in_turn}
use Rattle.rules.specs.Losing.{losing}
use Rattle.builtins_view.specs.Along.{names_on, but_for, slots_of}

-- the names of what is inherited from one object, and not from another
abbrev pub names_beside : World → ℤ → ℤ → List Text
names_beside w o other = names_on w (but_for (ancestors w other) (ancestors w o))

-- the slots that a child of one inherits, and no child of the other
abbrev pub slots_beside : World → ℤ → ℤ → List (Text × Slot)
slots_beside w o other = slots_of w o (names_beside w o other)

-- all that a child inherits
abbrev pub heritage : World → ℤ → List (Text × Slot)
heritage w o = slots_of w o (names_on w (ancestors w o))

-- each object loses its slots of these names
abbrev pub lose_each : List Text → List ℤ → World → World
lose_each [] ds w = w
lose_each (p ∷ ps) ds w = lose_each ps ds (in_turn (losing p) ds w)

-- an object that has no slot of the name gets an heir's
abbrev pub inherited : World → ℤ → Text → Slot → Option Slot → World
inherited w d p s None = change_object w d (λ x. with_own_slot x p (heir_slot x.header.owner s))
inherited w d p s (Some t) = w

abbrev pub inherit_down : Text → Slot → List ℤ → World → World
inherit_down p s [] w = w
inherit_down p s (d ∷ ds) w = inherit_down p s ds (inherited w d p s (slot_at w d p))

-- each object inherits these slots
abbrev pub inherit_each : List (Text × Slot) → List ℤ → World → World
inherit_each [] ds w = w
inherit_each (e ∷ es) ds w = inherit_each es ds (inherit_down e.0 e.1 ds w)
