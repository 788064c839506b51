-- What is picked of the entries of a table.
use Rattle.std.specs.Prelude.{ℕ, not, List, [], ◌∷◌, Option, Some, None}
use Rattle.std.specs.Ordering.{eq_by_cmp}
use Rattle.std.specs.declared.cmp.Ordering.{Ordering}
use Rattle.std.specs.FinMap.{put}
use Rattle.std.specs.FinMap.Entries.{where_key}

-- an entry before the others, if there is something for it
abbrev pub pick : {K Y : Type 0} → K → Option Y → List (K × Y) → List (K × Y)
pick k None es = es
pick k (Some y) es = (k, y) ∷ es

-- the keys of which something is picked, with it
abbrev pub picked : {K X Y : Type 0} → (X → Option Y) → List (K × X) → List (K × Y)
picked f [] = []
picked f (e ∷ es) = pick e.0 (f e.1) (picked f es)

abbrev pub before : {T : Type 0} → Option T → List T → List T
before None ts = ts
before (Some t) ts = t ∷ ts

-- what is chosen of each entry, in their order
abbrev pub chosen : {X T : Type 0} → (ℕ → X → Option T) → List (ℕ × X) → List T
chosen f [] = []
chosen f (e ∷ es) = before (f e.0 e.1) (chosen f es)

-- another record for a key, or none
abbrev pub changed : {K Y : Type 0} → (K → K → Ordering) → K → Option Y → List (K × Y) → List (K × Y)
changed R k None es = where_key R (λ j. not (eq_by_cmp R k j)) es
changed R k (Some y) es = put R k y es
