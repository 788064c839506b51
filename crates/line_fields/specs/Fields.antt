-- The fields that the lines of a world's text are made of.
use Rattle.std.specs.Prelude.{ℕ, ◌==◌, ◌||◌, not, Bool, false, List, [], ◌∷◌}
use Rattle.std.specs.List.{list_all}
use Rattle.spec_value.specs.Datum.{Text, Datum, is_value}
use Rattle.spec_value.specs.Literal.{literal}

-- a word, or the literal of a value
pub data Field : Type 0 where
  word : Text → Field
  held : Datum → Field

abbrev pub spelled : Field → Text
spelled (word t) = t
spelled (held v) = literal v

abbrev pub all_spelled : List Field → List Text
all_spelled [] = []
all_spelled (f ∷ fs) = spelled f ∷ all_spelled fs

-- it ends no line and no field, and is no mark of a text or a list
abbrev pub is_plain : ℕ → Bool
is_plain c = not (c == 10 || (c == 32 || (c == 34 || (c == 123 || c == 125))))

abbrev pub is_word : Text → Bool
is_word [] = false
is_word (c ∷ t) = list_all is_plain (c ∷ t)

abbrev pub is_field : Field → Bool
is_field (word t) = is_word t
is_field (held v) = is_value v

abbrev pub are_fields : List Field → Bool
are_fields fs = list_all is_field fs
