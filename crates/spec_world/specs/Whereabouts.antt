-- Where objects are (Programmer's Manual, "Operations on Objects": `move()`).
use Rattle.std.specs.Prelude.{ℕ, zero, suc, ℤ, Bool, false, ◌||◌, [], ◌∷◌, ◌++◌, Option, Some, None}
use Rattle.std.specs.Ordering.{int_eq}
use Rattle.spec_world.specs.World.{World, Object, object_at}
use Rattle.spec_world.specs.Inherit.{line_bound}
use Rattle.spec_world.specs.Naming.{location_of}
use Rattle.spec_world.specs.Families.{change_object, out_of_place}

-- an object, or a place that it is in, is this one, after at most n places
unfoldable pub in_within : ℕ → World → ℤ → ℤ → Bool
in_within zero w what place = int_eq what place
in_within (suc n) w what place = int_eq what place || within_location (in_within n w what) (object_at w place)
  where
    within_location : (ℤ → Bool) → Option Object → Bool
    within_location inner None = false
    within_location inner (Some x) = inner x.header.location

-- a place is an object, or is inside of it
abbrev pub is_inside : World → ℤ → ℤ → Bool
is_inside w what place = in_within (line_bound w) w what place

abbrev pub put_into : World → ℤ → ℤ → World
put_into w what place = change_object w place (λ x. record x { contents = x.contents ++ what ∷ [] })

-- last in the new contents
unfoldable pub moved : World → ℤ → ℤ → World
moved w what place =
    put_into (change_object (out_of_place w (location_of (object_at w what)) what) what (λ x. record x { header = record (x.header) { location = place } })) what place
