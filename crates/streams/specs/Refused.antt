-- Why streams were not read.
use Rattle.std.specs.Prelude.{ℕ}
use Rattle.streams.specs.declared.reading.NotRead.{NotRead}
use Rattle.streams.specs.declared.reading.NotRead.TheVariants.{Memory, Failed}

-- what is said of the number of the stream of which a read failed
abbrev pub OnFailed : NotRead → (ℕ → Type 0) → Type 0
OnFailed Memory P = Unit {0}
OnFailed (Failed n) P = P n
