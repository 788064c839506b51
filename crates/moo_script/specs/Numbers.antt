-- Numbers as they are written: digits without needless zeros.
use Rattle.std.specs.Prelude.{ℕ, min, Bool, not, ◌&&◌, ◌==◌, nat_lt, List, length, slice_index}
use Rattle.std.specs.List.{list_all}
use Rattle.std.specs.Char.{is_ascii_digit}
use Rattle.std.specs.Str.Parse.{digits_value}

abbrev pub has_needless_zero : List ℕ → Bool
has_needless_zero ds = nat_lt 1 (length ds) && (slice_index ds 0 == 48)

abbrev pub is_number : List ℕ → Bool
is_number ds = nat_lt 0 (length ds) && (not (has_needless_zero ds) && list_all is_ascii_digit ds)

-- the number, or the greatest one below it that a reader gives
abbrev pub number_value : List ℕ → ℕ
number_value ds = min (digits_value 10 ds) 4294967295
