-- Lists of entries in rising order of keys, in the words of the library's `FinMap`.
use Rattle.std.specs.Prelude.{ℕ, cond, not, List, [], ◌∷◌, Option, Some, None, nat_le}
use Rattle.std.specs.Ordering.{nat_cmp, eq_by_cmp}
use Rattle.std.specs.FinMap.Entries.{where_key}

-- the entries at the other keys, as `FinMap.remove` leaves them
abbrev pub without : {V : Type 0} → ℕ → List (ℕ × V) → List (ℕ × V)
without key = where_key nat_cmp (λ k. not (eq_by_cmp nat_cmp key k))

-- the first entry at this key or above it
abbrev pub first_from : {V : Type 0} → ℕ → List (ℕ × V) → Option (ℕ × V)
first_from key [] = None
first_from key (e ∷ es) = cond (nat_le key e.0) (Some e) (first_from key es)

-- the key of the last entry
abbrev pub last_key : {V : Type 0} → List (ℕ × V) → Option ℕ
last_key [] = None
last_key (e ∷ []) = Some e.0
last_key (e ∷ f ∷ es) = last_key (f ∷ es)
