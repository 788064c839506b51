-- What happens while an object goes.
use Rattle.std.specs.Prelude.{◌≡◌, ℤ, List, Some, option_map}
use Rattle.spec_value.specs.Table.{without}
use Rattle.spec_world.specs.World.{World, object_at}
use Rattle.spec_world.specs.Families.{lose_child, out_of_place}

-- it is there, with this parent and these children
abbrev pub HasChildren : World → ℤ → ℤ → List ℤ → Type 0
HasChildren w o p cs = option_map {U = ℤ × List ℤ} (λ x. (x.header.parent, x.children)) (object_at w o) ≡ Some (p, cs)

-- neither its parent nor its place knows it, and it is not there
abbrev pub forgotten : World → ℤ → ℤ → ℤ → World
forgotten w o parent place = let u : World = out_of_place (lose_child w parent o) place o in record u { objects = without u.objects o }
