-- Values that are kept as their literals.
use Rattle.std.specs.Prelude.{◌≡◌, ℕ, List, [], ◌∷◌, ◌++◌, ◌+◌, length, string_bytes, IsTrue}
use Rattle.std.specs.List.{list_all}
use Rattle.spec_value.specs.Datum.{Text, Datum, is_value}
use Rattle.spec_value.specs.Literal.{literal}
use Rattle.spec_world.specs.Checkpoint.{list_literal}
use Rattle.slot_content.specs.declared.kept.Kept.{Kept}

-- the literals of values, one behind the other
abbrev pub literals : List Datum → Text
literals [] = []
literals (v ∷ vs) = literal v ++ literals vs

-- where each literal starts, the first at this place, and where the last ends
abbrev pub marks : ℕ → List Datum → List ℕ
marks start [] = start ∷ []
marks start (v ∷ vs) = start ∷ marks (start + length (literal v)) vs

-- they are values, and their list has this literal
pub record AreOf (t : Text) (vs : List Datum) : Type 0 where
  pub values : IsTrue (list_all is_value vs)
  pub literal : list_literal vs ≡ t

-- what is kept of values: their literals, where these lie, and room for the values
pub record IsKept (k : Kept) : Type 0 where
  pub values : IsTrue (list_all is_value k.values.value.items)
  pub text : string_bytes k.text ≡ literals k.values.value.items
  pub marks : k.marks.items ≡ marks 0 k.values.value.items
  pub room : k.read.tag ≡ list_literal k.values.value.items
