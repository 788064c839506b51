-- What the Two-Way search reads, and where it cuts what it seeks.
use Rattle.std.specs.Prelude.{◌≡◌, ℕ, ◌+◌, ◌-◌, ◌<◌, ◌≤◌, Bool, true, false, List, length, slice_index, if◌then◌else◌}
use Rattle.std.specs.Char.{to_ascii_lowercase}
use Rattle.memchr.specs.Critical.{IsCritical, NoPeriodBelow}
use Rattle.moo_text.specs.declared.two_way.Reading.{Reading}
use Rattle.moo_text.specs.declared.two_way.Cut.{Cut}

-- a character by what counts of it
abbrev pub character : Bool → ℕ → ℕ
character true c = c
character false c = to_ascii_lowercase c

-- the character at a place of a text, read in one way
abbrev pub read_by : Reading → List ℕ → ℕ → ℕ
read_by r xs k = character r.case_counts (slice_index xs (if r.backward then length xs - 1 - k else k))

-- the order of characters, or that order turned round
abbrev pub precedes : Bool → ℕ → ℕ → Type 0
precedes false a b = a < b
precedes true a b = b < a

-- m characters are cut at a critical place: they have no period below the shift, and the known ones stand a shift later too
pub record IsCutOf (x : ℕ → ℕ) (m : ℕ) (c : Cut) : Type 0 where
  pub below : c.place < m
  pub critical : IsCritical x m c.place
  pub some : 0 < c.shift
  pub reach : c.place ≤ c.shift
  pub fits : c.shift + c.known ≤ m
  pub short : NoPeriodBelow x m c.shift
  pub repeats : (k : ℕ) → k < c.known → x k ≡ x (k + c.shift)
