-- Tables by natural numbers, as the world's maps by integers.
use Rattle.std.specs.Prelude.{ℕ, ℤ, pos, negsuc, ◌+◌, ◌-◌, nat_lt, if◌then◌else◌, List, map}
use Rattle.spec_value.specs.Table.{Numbered}

-- each key is read as an integer
abbrev pub keyed : {X : Type 0} → (ℕ → ℤ) → List (ℕ × X) → Numbered X
keyed f es = map (λ e. (f e.0, e.1)) es

abbrev pub numbered : {X : Type 0} → List (ℕ × X) → Numbered X
numbered es = keyed pos es

-- the keys below 2 ^ 31 stand for the negative integers, the least first
abbrev pub signed_key : ℕ → ℤ
signed_key k = if nat_lt k 2147483648 then negsuc (2147483647 - k) else pos (k - 2147483648)

-- the key that stands for an integer of 32 bits
abbrev pub unsigned_key : ℤ → ℕ
unsigned_key (pos n) = n + 2147483648
unsigned_key (negsuc n) = 2147483647 - n

abbrev pub signed : {X : Type 0} → List (ℕ × X) → Numbered X
signed es = keyed signed_key es
