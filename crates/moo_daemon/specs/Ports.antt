-- The word that names a port.
use Rattle.std.specs.Prelude.{ℕ, ◌<◌, ◌≤◌, List, IsTrue}
use Rattle.moo_script.specs.Numbers.{is_number, number_value}

-- a number from 1 to 65535
abbrev pub NamesPort : List ℕ → Type 0
NamesPort word = IsTrue (is_number word) × (0 < number_value word) × (number_value word ≤ 65535)
