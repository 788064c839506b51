-- The number of a key becomes another one.
use Rattle.std.specs.Prelude.{ℕ, List, Option, Some, None}
use Rattle.due_table.specs.Pairs.{with_pair, without_pair}

abbrev pub with_number : Option ℕ → ℕ → List (ℕ × ℕ) → List (ℕ × ℕ)
with_number None k ds = ds
with_number (Some m) k ds = with_pair (m, k) ds

abbrev pub without_number : Option ℕ → ℕ → List (ℕ × ℕ) → List (ℕ × ℕ)
without_number None k ds = ds
without_number (Some m) k ds = without_pair (m, k) ds

-- the pair of the old number goes, and that of the new one comes
abbrev pub moved : Option ℕ → Option ℕ → ℕ → List (ℕ × ℕ) → List (ℕ × ℕ)
moved old new k ds = with_number new k (without_number old k ds)
