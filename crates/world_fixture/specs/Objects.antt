-- The fixture with more objects.
use Rattle.std.specs.Prelude.{ℕ, zero, suc, ◌+◌, pos, codes}
use Rattle.spec_world.specs.World.{World, Object, with_object}
use Rattle.spec_world.specs.Families.{nowhere}
use Rattle.spec_fixture.specs.Fixture.{plain_header, bare}

abbrev pub lone_thing : Object
lone_thing = bare (record (plain_header (codes "Thing")) { parent = nowhere })

-- object 8 + n
abbrev pub with_thing : ℕ → World → World
with_thing n w = record (with_object w (pos (8 + n)) lone_thing) { greatest = pos (8 + n) }

unfoldable pub with_objects : ℕ → World → World
with_objects zero w = w
with_objects (suc n) w = with_thing n (with_objects n w)
