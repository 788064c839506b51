-- Why a session was refused.
use Rattle.std.specs.Prelude.{ℕ, Bool, true, false}
use Rattle.moo_session.specs.declared.refused.Refused.{Refused}
use Rattle.moo_session.specs.declared.refused.Refused.TheVariants.{Read, Write}

-- what is said of the number of the reader that failed
abbrev pub OnRead : Refused → (ℕ → Type 0) → Type 0
OnRead (Read n) P = P n
OnRead _ P = Unit {0}

-- what is said of the number of the writer that failed
abbrev pub OnWrite : Refused → (ℕ → Type 0) → Type 0
OnWrite (Write n) P = P n
OnWrite _ P = Unit {0}

abbrev pub is_write : Refused → Bool
is_write (Write n) = true
is_write _ = false
