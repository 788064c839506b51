-- A count that only contracts see.
use Rattle.std.specs.Prelude.{ℕ, ◌+◌, Option, Some, None}
use Rattle.std.specs.declared.snapshot.Snapshot.{Snapshot}

-- none before: 0; else one more
abbrev pub count_of : Option (Snapshot ℕ) → ℕ
count_of None = 0
count_of (Some s) = s.value + 1
