-- What the fields of a table mean.
use Rattle.std.specs.Prelude.{ℕ, ◌<◌, List, [], ◌∷◌, ◌++◌, map, length, unwrap_or}
use Rattle.std.specs.List.{AllByRecursion}
use Rattle.std.specs.List.Sorted.{IsStrictlySortedBy}
use Rattle.std.specs.Ordering.{nat_cmp}
use Rattle.std.specs.FinMap.{find, put}
use Rattle.world_table.specs.Branch.{Rises}
use Rattle.world_table.specs.Entries.{without}
use Rattle.due_table.specs.declared.keys.Held.{Held}
use Rattle.due_table.specs.declared.keys.Held.TheVariants.{One, Several}

abbrev pub keys_of : Held → List ℕ
keys_of (One key) = key ∷ []
keys_of (Several table) = map (λ e. e.0) table.entries

-- the keys that one moment has
pub record AreKeys (keys : List ℕ) : Type 0 where
  pub some : 0 < length keys
  pub sorted : IsStrictlySortedBy nat_cmp keys
  pub within : AllByRecursion (λ k. k < 4294967296) keys

abbrev pub at_moment : ℕ → List ℕ → List (ℕ × ℕ)
at_moment moment = map (λ k. (moment, k))

-- each moment's keys in turn
abbrev pub pairs_of : List (ℕ × List ℕ) → List (ℕ × ℕ)
pairs_of [] = []
pairs_of (e ∷ es) = at_moment e.0 e.1 ++ pairs_of es

abbrev pub IsSound : List (ℕ × List ℕ) → Type 0
IsSound es = Rises 0 4294967296 es × AllByRecursion (λ e. AreKeys e.1) es

abbrev pub keys_at : ℕ → List (ℕ × List ℕ) → List ℕ
keys_at moment es = unwrap_or (find nat_cmp moment es) []

-- a moment with these keys, or without an entry where there are none
abbrev pub kept_at : ℕ → List ℕ → List (ℕ × List ℕ) → List (ℕ × List ℕ)
kept_at moment [] es = without moment es
kept_at moment (k ∷ ks) es = put nat_cmp moment (k ∷ ks) es
