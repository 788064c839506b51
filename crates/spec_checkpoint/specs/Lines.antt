-- A text of lines is read in one way: each line ends at the first line end.
use Rattle.std.specs.Prelude.{◌≡◌, ◌==◌, Bool, not, List, ◌++◌, length, IsTrue}
use Rattle.std.specs.List.{list_all}
use Rattle.spec_value.specs.Datum.{Text}
use Rattle.spec_world.specs.Checkpoint.{with_line_ends}

-- it has no line end
abbrev pub is_line : Text → Bool
is_line t = list_all (λ c. not (c == 10)) t

abbrev pub are_lines : List Text → Bool
are_lines ts = list_all is_line ts

-- as many lines on both sides, whatever stands behind them
abbrev pub LinesReadOnce : Type 0
LinesReadOnce =
    (ts us : List Text) (r s : Text) → length ts ≡ length us → IsTrue (are_lines ts) → IsTrue (are_lines us)
    → with_line_ends ts ++ r ≡ with_line_ends us ++ s → (ts ≡ us) × (r ≡ s)

-- any number of lines, to the end of the text
abbrev pub WholeLinesReadOnce : Type 0
WholeLinesReadOnce = (ts us : List Text) → IsTrue (are_lines ts) → IsTrue (are_lines us) → with_line_ends ts ≡ with_line_ends us → ts ≡ us
