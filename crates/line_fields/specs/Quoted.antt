-- What a text's literal has between its quotes.
use Rattle.std.specs.Prelude.{ℕ, suc, ◌==◌, ◌&&◌, ◌||◌, Bool, not, List, [], ◌∷◌, if◌then◌else◌, Option, Some, None}
use Rattle.spec_value.specs.Datum.{is_character}

-- a character that a literal has as it is
abbrev pub is_ordinary : ℕ → Bool
is_ordinary c = is_character c && not (c == 34 || c == 92)

-- how many of them stand at the front
abbrev pub ordinary_run : List ℕ → ℕ
ordinary_run [] = 0
ordinary_run (c ∷ cs) = if is_ordinary c then suc (ordinary_run cs) else 0

-- what stands behind a backslash
abbrev pub behind_backslash : List ℕ → Option (Option ℕ × List ℕ)
behind_backslash [] = None
behind_backslash (c ∷ cs) = if (c == 34 || c == 92) then Some (Some c, cs) else None

-- the end of the text, or an escaped character
abbrev pub quote_mark : List ℕ → Option (Option ℕ × List ℕ)
quote_mark [] = None
quote_mark (c ∷ cs) = if c == 34 then Some (None, cs) else (if c == 92 then behind_backslash cs else None)
