-- Numbers without needless zeros.
use Rattle.std.specs.Prelude.{ℕ, ◌+◌, ◌-◌, ◌*◌, ◌^◌, min, nat_le, ◌==◌, ◌&&◌, Bool, true, false, [], ◌∷◌, if◌then◌else◌}
use Rattle.std.specs.List.{list_all}
use Rattle.spec_value.specs.Datum.{Text}
use Rattle.spec_program.specs.Names.{is_digit}

abbrev pub is_over : Text → Bool
is_over [] = true
is_over (c ∷ t) = false

-- a digit that is no zero
abbrev pub leads : ℕ → Bool
leads c = nat_le 49 c && nat_le c 57

abbrev pub is_plain_number : Text → Bool
is_plain_number [] = false
is_plain_number (c ∷ t) = if c == 48 then is_over t else (leads c && list_all is_digit t)

abbrev pub behind_sign : Text → Text
behind_sign [] = []
behind_sign (c ∷ t) = if c == 45 then t else c ∷ t

abbrev pub is_signed : Text → Bool
is_signed [] = false
is_signed (c ∷ t) = c == 45

-- the number with one more digit, or the greatest of 64 bits where that is less
abbrev pub one_digit_more : ℕ → ℕ → ℕ
one_digit_more n c = min (min (n * 10) (2 ^ 64 - 1) + (c - 48)) (2 ^ 64 - 1)

-- the number that digits spell behind one
abbrev pub magnitude_behind : ℕ → Text → ℕ
magnitude_behind n [] = n
magnitude_behind n (c ∷ t) = magnitude_behind (one_digit_more n c) t
