-- The word that says how many workers run the steps.
use Rattle.std.specs.Prelude.{ℕ, ◌<◌, ◌≤◌, List, IsTrue}
use Rattle.moo_script.specs.Numbers.{is_number, number_value}

-- a number from 1 to 64
abbrev pub NamesWorkers : List ℕ → Type 0
NamesWorkers word = IsTrue (is_number word) × (0 < number_value word) × (number_value word ≤ 64)
