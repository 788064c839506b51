-- The person on a link.
use Rattle.std.specs.Prelude.{ℤ, negsuc, Option, Some, None}
use Rattle.spec_world.specs.World.{Link}

abbrev pub person_of : Option Link → ℤ
person_of None = negsuc 0
person_of (Some k) = k.person
