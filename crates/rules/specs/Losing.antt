-- What objects lose with a property.
use Rattle.std.specs.Prelude.{ℤ}
use Rattle.spec_value.specs.Datum.{Text}
use Rattle.spec_world.specs.World.{Object}
use Rattle.spec_world.specs.Members.{lose_slot}

-- each loses its slot
abbrev pub losing : Text → ℤ → Object → Object
losing p d x = lose_slot x p
