-- The fields of a line that is cut at its first spaces.
use Rattle.std.specs.Prelude.{ℕ, zero, suc, List, [], ◌∷◌}
use Rattle.spec_value.specs.Datum.{Text}
use Rattle.spec_world.specs.Checkpoint.{fields}

-- so many of them, and what stands behind these, which may be several
abbrev pub first_fields : ℕ → List Text → List Text
first_fields zero ts = fields ts ∷ []
first_fields (suc n) [] = []
first_fields (suc n) (t ∷ []) = t ∷ []
first_fields (suc n) (t ∷ u ∷ ts) = t ∷ first_fields n (u ∷ ts)
