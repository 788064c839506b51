-- Lines that are one word as they stand.
use Rattle.std.specs.Prelude.{ℕ, Bool, false, not, ◌&&◌, ◌==◌, [], ◌∷◌, None}
use Rattle.std.specs.List.{list_all}
use Rattle.spec_value.specs.Datum.{Text}
use Rattle.spec_world.specs.CommandLines.{Parts, parts_at}

-- a character of a word, wherever it stands in it, but for signs at the front of a line
abbrev pub is_plain : ℕ → Bool
is_plain c = not (c == 32) && not (c == 34) && not (c == 92)

abbrev pub is_word : Text → Bool
is_word [] = false
is_word (c ∷ t) = not (c == 58) && not (c == 59) && list_all is_plain (c ∷ t)

abbrev pub parts_of_word : Text → Parts
parts_of_word t = parts_at t [] [] None
