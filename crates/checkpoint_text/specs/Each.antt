-- What is written of the entries of a table, one after the other.
use Rattle.std.specs.Prelude.{ℤ, List, [], ◌∷◌, ◌++◌, Option, Some, None}
use Rattle.spec_value.specs.Datum.{Text}
use Rattle.spec_value.specs.Table.{Numbered, at}

abbrev pub of_found : {X : Type 0} → (ℤ → X → List Text) → ℤ → Option X → List Text
of_found f k None = []
of_found f k (Some x) = f k x

-- the lines of what is at each of these keys
abbrev pub of_each : {X : Type 0} → (ℤ → X → List Text) → Numbered X → List ℤ → List Text
of_each f m [] = []
of_each f m (k ∷ ks) = of_found f k (at m k) ++ of_each f m ks

-- the lines of each entry
abbrev pub of_all : {X : Type 0} → (ℤ → X → List Text) → Numbered X → List Text
of_all f [] = []
of_all f (e ∷ es) = f e.0 e.1 ++ of_all f es
