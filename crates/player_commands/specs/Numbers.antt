-- Numbers of objects in texts.
use Rattle.std.specs.Prelude.{◌≡◌, ℕ, min, ℤ, pos, int_le, ◌&&◌, Option, Some, None, IsFalse}

-- no object has such a number
abbrev pub IsNoObject : ℤ → Type 0
IsNoObject n = IsFalse (int_le (pos 0) n && int_le n (pos 2147483647))

-- what is read where a text says a number, or none: that number, unless no object has it
abbrev pub IsNumberOf : Option ℤ → Option ℤ → Type 0
IsNumberOf None r = r ≡ None
IsNumberOf (Some n) None = IsNoObject n
IsNumberOf (Some n) (Some o) = o ≡ n

-- a number, up to one that is beyond those of objects
abbrev pub capped : ℕ → ℕ
capped n = min n 4294967296
