-- What stands below an object, and a walk that has come so far.
use Rattle.std.specs.Prelude.{◌≡◌, ℕ, ℤ, List, [], take, Option, Some, None, IsTrue}
use Rattle.spec_world.specs.World.{World}
use Rattle.spec_world.specs.WellFormed.{lists}
use Rattle.spec_world.specs.Families.{is_below}
use Rattle.spec_world.specs.Questions.{children_at}

abbrev pub among : Option (List ℤ) → List ℤ
among None = []
among (Some cs) = cs

-- these are all that are below an object, itself included, and no others
abbrev pub IsFamily : World → ℤ → List ℤ → Type 0
IsFamily w o ds = (d : ℤ) → lists ds d ≡ is_below w o d

-- these are below it, and have among them the children of each of the first so many
pub record Walked (w : World) (o : ℤ) (n : ℕ) (ds : List ℤ) : Type 0 where
  pub begins : IsTrue (lists ds o)
  pub below : (d : ℤ) → IsTrue (lists ds d) → IsTrue (is_below w o d)
  pub closed : (d : ℤ) (cs : List ℤ) → IsTrue (lists (take n ds) d) → children_at w d ≡ Some cs → (c : ℤ) → IsTrue (lists cs c) → IsTrue (lists ds c)
