-- Texts that begin with others.
use Rattle.std.specs.Prelude.{◌≡◌, ◌++◌}
use Rattle.spec_value.specs.Datum.{Text}

-- a text does not begin with another one
abbrev pub BeginsOtherwise : Text → Text → Type 0
BeginsOtherwise front bytes = (rest : Text) → bytes ≡ front ++ rest → ⊥
