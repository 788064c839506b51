-- The bound of a random number.
use Rattle.std.specs.Prelude.{◌≡◌, ◌<◌, ℕ, ℤ, pos, negsuc, Option, Some, None}

-- it is at least 1, or there is none
abbrev pub IsBound : ℤ → Option ℕ → Type 0
IsBound (pos m) (Some b) = (b ≡ m) × (0 < m)
IsBound (pos m) None = m ≡ 0
IsBound (negsuc m) (Some b) = ⊥
IsBound (negsuc m) None = Unit {0}
