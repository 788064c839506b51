-- Tables of objects.
use Rattle.std.specs.Prelude.{◌≡◌, ℤ, pos, negsuc, Bool, true, List, Some, slice_get}

-- an object is one of a table
abbrev pub IsThere : List Bool → ℤ → Type 0
IsThere ts (pos n) = slice_get ts n ≡ Some true
IsThere ts (negsuc n) = ⊥

-- what was there is there
abbrev pub Grows : List Bool → List Bool → Type 0
Grows old new = (o : ℤ) → IsThere old o → IsThere new o
