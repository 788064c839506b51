-- Objects that are changed one after the other.
use Rattle.std.specs.Prelude.{ℤ, List, [], ◌∷◌}
use Rattle.spec_world.specs.World.{World, Object}
use Rattle.spec_world.specs.Families.{change_object}

abbrev pub in_turn : (ℤ → Object → Object) → List ℤ → World → World
in_turn f [] w = w
in_turn f (d ∷ ds) w = in_turn f ds (change_object w d (f d))
