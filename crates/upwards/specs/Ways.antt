-- Places of records upwards along their parents, and the nearest one that is filled.
use Rattle.std.specs.Prelude.{◌≡◌, ◌<◌, ℕ, Bool, true, false, List, [], ◌∷◌, length, slice_index_or, Option, Some, None, IsTrue, if◌then◌else◌}
use Rattle.upwards.specs.declared.nearest.Upwards.{Upwards}
use Rattle.upwards.specs.declared.nearest.Nearest.{Nearest}
use Rattle.upwards.specs.declared.nearest.Nearest.TheVariants.{Unknown, Absent, At}

-- the places from one upwards, to one above which nothing is
abbrev pub IsWay : List (Option ℕ) → Option ℕ → List ℕ → Type 0
IsWay parents o [] = o ≡ None
IsWay parents o (i ∷ is) = (o ≡ Some i) × (i < length parents) × IsWay parents (slice_index_or parents i None) is

-- from each place there is such a way
abbrev pub HaveWays : List (Option ℕ) → Type 0
HaveWays parents = (i : ℕ) → i < length parents → (is : List ℕ) × IsWay parents (Some i) is

-- the first of these places that is filled
abbrev pub first_filled : List Bool → List ℕ → Option ℕ
first_filled filled [] = None
first_filled filled (i ∷ is) = if slice_index_or filled i false then Some i else first_filled filled is

abbrev pub nearest_of : Option ℕ → Nearest
nearest_of None = Absent
nearest_of (Some i) = At i

abbrev pub is_known : Nearest → Bool
is_known Unknown = false
is_known Absent = true
is_known (At i) = true

-- what is said of the nearest record from a place upwards is so
abbrev pub Says : List Bool → List (Option ℕ) → ℕ → Nearest → Type 0
Says filled parents i Unknown = slice_index_or filled i false ≡ false
Says filled parents i n = (is : List ℕ) → IsWay parents (Some i) is → n ≡ nearest_of (first_filled filled is)

pub record IsRight (filled : List Bool) (u : Upwards) : Type 0 where
  pub same : length u.nearest.items ≡ length u.parents.items
  pub says : (i : ℕ) → i < length u.parents.items → Says filled u.parents.items i (slice_index_or u.nearest.items i Unknown)

-- and all is known
pub record IsKnown (filled : List Bool) (u : Upwards) : Type 0 where
  pub same : length u.nearest.items ≡ length u.parents.items
  pub says : (i : ℕ) (is : List ℕ) → IsWay u.parents.items (Some i) is → slice_index_or u.nearest.items i Unknown ≡ nearest_of (first_filled filled is)

-- of so many places something is known
abbrev pub first_known : ℕ → Upwards → Type 0
first_known n u = (i : ℕ) → i < n → IsTrue (is_known (slice_index_or u.nearest.items i Unknown))

-- what is known of a place at first
abbrev pub own_nearest : ℕ → Bool → Nearest
own_nearest i true = At i
own_nearest i false = Unknown

-- the places above
abbrev pub parents_of : Upwards → List (Option ℕ)
parents_of u = u.parents.items
