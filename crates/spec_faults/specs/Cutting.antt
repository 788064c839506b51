-- A text in lines, and a line in fields.
use Rattle.std.specs.Prelude.{ℕ, zero, suc, ◌-◌, ◌==◌, Bool, true, false, List, [], ◌∷◌, if◌then◌else◌}
use Rattle.spec_value.specs.Datum.{Text}

-- ---- lines

-- the lines that have their line ends, without them, and what stands behind the last one
pub record Cut : Type 0 where
  pub lines : List Text
  pub rest : Text

abbrev pub onto : ℕ → List Text → Text → Cut
onto c [] rest = record { lines = []; rest = c ∷ rest }
onto c (t ∷ ts) rest = record { lines = (c ∷ t) ∷ ts; rest = rest }

abbrev pub with_character : Bool → ℕ → Cut → Cut
with_character true c k = record { lines = [] ∷ k.lines; rest = k.rest }
with_character false c k = onto c k.lines k.rest

abbrev pub lines_of : Text → Cut
lines_of [] = record { lines = []; rest = [] }
lines_of (c ∷ t) = with_character (c == 10) c (lines_of t)

-- ---- fields

-- where a character stands: within so many lists, within a text there, or behind a backslash in one
pub data Spot : Type 0 where
  among : ℕ → Spot
  quoted : ℕ → Spot
  escaped : ℕ → Spot

abbrev pub behind : Spot → ℕ → Spot
behind (among n) c = if c == 34 then quoted n else (if c == 123 then among (suc n) else (if c == 125 then among (n - 1) else among n))
behind (quoted n) c = if c == 34 then among n else (if c == 92 then escaped n else quoted n)
behind (escaped n) c = quoted n

-- a space within a list or a text ends no field
abbrev pub ends_field : Spot → ℕ → Bool
ends_field (among zero) c = c == 32
ends_field _ c = false

abbrev pub onto_first : ℕ → List Text → List Text
onto_first c [] = (c ∷ []) ∷ []
onto_first c (t ∷ ts) = (c ∷ t) ∷ ts

abbrev pub with_next : Bool → ℕ → List Text → List Text
with_next true c ts = [] ∷ ts
with_next false c ts = onto_first c ts

abbrev pub spot_behind : Bool → Spot → ℕ → Spot
spot_behind true s c = among 0
spot_behind false s c = behind s c

abbrev pub fields_from : Spot → Text → List Text
fields_from s [] = [] ∷ []
fields_from s (c ∷ t) = with_next (ends_field s c) c (fields_from (spot_behind (ends_field s c) s c) t)

-- what stands between the single spaces of a line
abbrev pub fields_in : Text → List Text
fields_in t = fields_from (among 0) t

-- where no field is, it counts as one without a character
abbrev pub field_at : List Text → ℕ → Text
field_at [] n = []
field_at (t ∷ ts) zero = t
field_at (t ∷ ts) (suc n) = field_at ts n

abbrev pub is_filled : Text → Bool
is_filled [] = false
is_filled (c ∷ t) = true
