-- Entries of a table by a number that some of them have.
use Rattle.std.specs.Prelude.{ℕ, nat_lt, if◌then◌else◌, List, [], ◌∷◌, map, filter, Option, Some, None}
use Rattle.std.specs.Ordering.{nat_cmp, eq_by_cmp}

-- something with its number, before the first whose number is not less
abbrev pub put_pair : {K : Type 0} → ℕ → K → List (ℕ × K) → List (ℕ × K)
put_pair m k [] = (m, k) ∷ []
put_pair m k (d ∷ ds) = if nat_lt d.0 m then d ∷ put_pair m k ds else (m, k) ∷ d ∷ ds

-- nothing, where there is no number
abbrev pub put_if_any : {K : Type 0} → Option ℕ → K → List (ℕ × K) → List (ℕ × K)
put_if_any None k ds = ds
put_if_any (Some m) k ds = put_pair m k ds

-- the keys of the entries that have a number, with it: by their numbers, and those of one number in the order in which they stand
abbrev pub paired : {K X : Type 0} → (X → Option ℕ) → List (K × X) → List (ℕ × K)
paired f [] = []
paired f (e ∷ es) = put_if_any (f e.1) e.0 (paired f es)

-- the keys of one number, each with it
abbrev pub keys_of : ℕ → List (ℕ × ℕ) → List (ℕ × ℕ)
keys_of m ds = map (λ d. (d.1, m)) (filter (λ d. eq_by_cmp nat_cmp m d.0) ds)
