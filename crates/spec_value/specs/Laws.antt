-- Laws of values, in the subject's own words.
use Rattle.std.specs.Prelude.{IsTrue, ◌↔◌, ◌≡◌}
use Rattle.spec_value.specs.Datum.{Datum, same}

-- `same` tells equal values
abbrev pub SameDecides : Type 0
SameDecides = (x y : Datum) → IsTrue (same x y) ↔ (x ≡ y)
