-- Names of two lists together.
use Rattle.std.specs.Prelude.{◌≡◌, ℕ, ◌+◌, ◌≤◌, false, List, [], ◌∷◌, Some, slice_get, if◌then◌else◌}
use Rattle.std.specs.Ordering.{nat_cmp, is_lt}
use Rattle.std.specs.Cmp.Lexicographic.{slice_cmp}
use Rattle.spec_value.specs.Datum.{Text, same_text}

abbrev pub how_many : Text → List Text → ℕ
how_many t [] = 0
how_many t (s ∷ ts) = (if same_text t s then 1 else 0) + how_many t ts

-- the third list has each name as often as the first two together
abbrev pub IsMerge : List Text → List Text → List Text → Type 0
IsMerge ts us vs = (t : Text) → how_many t vs ≡ how_many t ts + how_many t us

-- none is less than one before it
abbrev pub InOrder : List Text → Type 0
InOrder ts = (i j : ℕ) (s t : Text) → i ≤ j → slice_get ts i ≡ Some s → slice_get ts j ≡ Some t → is_lt (slice_cmp nat_cmp t s) ≡ false
