-- The key of a script: two hexadecimal digits in lower case for each byte.
use Rattle.std.specs.Prelude.{◌≡◌, ℕ, ◌+◌, ◌-◌, ◌*◌, ◌<◌, Bool, ◌&&◌, ◌||◌, ◌==◌, if◌then◌else◌, List, length, slice_index}
use Rattle.std.specs.List.{list_all}
use Rattle.std.specs.Int.{is_in_range}

abbrev pub is_hexadecimal : ℕ → Bool
is_hexadecimal c = is_in_range 48 57 c || is_in_range 97 102 c

abbrev pub hexadecimal_value : ℕ → ℕ
hexadecimal_value c = if is_in_range 48 57 c then c - 48 else c - 87

abbrev pub is_key : List ℕ → Bool
is_key ds = (length ds == 64) && list_all is_hexadecimal ds

-- the digits spell these bytes
abbrev pub Spells : List ℕ → List ℕ → Type 0
Spells ds key = (length key ≡ 32) × ((i : ℕ) → i < 32 → slice_index key i ≡ hexadecimal_value (slice_index ds (2 * i)) * 16 + hexadecimal_value (slice_index ds (2 * i + 1)))
