-- The first item of a list.
use Rattle.std.specs.Prelude.{◌≡◌, List, [], ◌∷◌, Option, Some, None}

abbrev pub first : {T : Type 0} → List T → Option T
first [] = None
first (x ∷ xs) = Some x

-- it is taken, where there is one
abbrev pub Takes : {T : Type 0} → List T → Option T → List T → Type 0
Takes old None new = (old ≡ []) × (new ≡ [])
Takes old (Some x) new = old ≡ x ∷ new
