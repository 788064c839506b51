-- Links, as tables keep them.
use Rattle.std.specs.Prelude.{◌≡◌, ℕ, ℤ, List, Some}
use Rattle.std.specs.List.{AllByRecursion}
use Rattle.spec_world.specs.World.{Link}
use Rattle.world.specs.Numbered.{signed_key, unsigned_key}
use Rattle.world.specs.Paired.{paired}

-- integers of 32 bits, which their keys give back
abbrev pub IsKeyed : ℤ → Type 0
IsKeyed i = signed_key (unsigned_key i) ≡ i

abbrev pub AreKeyed : List (ℕ × Link) → Type 0
AreKeyed es = AllByRecursion (λ e. IsKeyed (e.1).person) es

-- the keys of links by those of the persons on them
abbrev pub by_person : List (ℕ × Link) → List (ℕ × ℕ)
by_person es = paired (λ l. Some (unsigned_key l.person)) es

pub record AreLinks (links : List (ℕ × Link)) (pairs : List (ℕ × ℕ)) : Type 0 where
  pub keyed : AreKeyed links
  pub persons : pairs ≡ by_person links
