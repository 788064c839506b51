-- Finite maps: lists of entries whose keys strictly rise.
use Rattle.std.specs.Prelude.{ℤ, List, filter, Option, Bool, not}
use Rattle.std.specs.Ordering.{nat_cmp, int_cmp, int_eq}
use Rattle.std.specs.Cmp.Lexicographic.{slice_cmp}
use Rattle.std.specs.FinMap.{find, put, is_sorted}
use Rattle.spec_value.specs.Datum.{Text, same_text}

-- by integer, and by name
abbrev pub Numbered : Type 0 → Type 0
Numbered X = List (ℤ × X)

abbrev pub Named : Type 0 → Type 0
Named X = List (Text × X)

module _ {X : Type 0} where
  abbrev pub at : Numbered X → ℤ → Option X
  at m k = find int_cmp k m

  abbrev pub with : Numbered X → ℤ → X → Numbered X
  with m k x = put int_cmp k x m

  abbrev pub without : Numbered X → ℤ → Numbered X
  without m k = filter (λ e. not (int_eq k e.0)) m

  abbrev pub named : Named X → Text → Option X
  named m k = find (slice_cmp nat_cmp) k m

  abbrev pub with_name : Named X → Text → X → Named X
  with_name m k x = put (slice_cmp nat_cmp) k x m

  abbrev pub without_name : Named X → Text → Named X
  without_name m k = filter (λ e. not (same_text k e.0)) m

  abbrev pub is_numbered : Numbered X → Bool
  is_numbered = is_sorted int_cmp

  abbrev pub is_named : Named X → Bool
  is_named = is_sorted (slice_cmp nat_cmp)
