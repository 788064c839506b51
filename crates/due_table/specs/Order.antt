-- Lists in a strictly rising order R, each item once.
use Rattle.std.specs.Prelude.{not, List, [], ◌∷◌, Option, filter, find}
use Rattle.std.specs.declared.cmp.Ordering.{Ordering}
use Rattle.std.specs.Ordering.{is_le, eq_by_cmp}
use Rattle.std.specs.FinMap.Entries.{by_order}

-- an item more, in its place, unless it is there
abbrev pub with_item : {K : Type 0} → (K → K → Ordering) → K → List K → List K
with_item R k [] = k ∷ []
with_item R k (j ∷ js) = by_order (R k j) (k ∷ j ∷ js) (j ∷ js) (j ∷ with_item R k js)

-- the others
abbrev pub without_item : {K : Type 0} → (K → K → Ordering) → K → List K → List K
without_item R k = filter (λ j. not (eq_by_cmp R k j))

-- the first that is this one or after it
abbrev pub first_item_from : {K : Type 0} → (K → K → Ordering) → K → List K → Option K
first_item_from R k = find (λ j. is_le (R k j))
