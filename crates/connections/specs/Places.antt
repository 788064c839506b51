-- Places that hold something or nothing, as those of a server's links.
use Rattle.std.specs.Prelude.{ℕ, suc, List, [], ◌∷◌, map, Bool, true, false, Option, is_some}

-- which places hold something, in order
abbrev pub in_use : {A : Type 0} → List (Option A) → List Bool
in_use places = map is_some places

-- how many places come before the first that holds nothing
abbrev pub leading : List Bool → ℕ
leading [] = 0
leading (true ∷ places) = suc (leading places)
leading (false ∷ places) = 0
