-- What comes of a step: how it ended, its ticks, what it told, queued and closed.
use Rattle.std.specs.Prelude.{ℕ, ℤ, List, Bool}
use Rattle.spec_value.specs.Datum.{Datum, Text}

pub data Result : Type 0 where
  value_of raised_by : Datum → Result
  suspended reading ran_out killed none absent early ended : Result

-- when a queued task is due: at a moment, when it is resumed, or when a line is read
pub data Due : Type 0 where
  at_moment : ℕ → Due
  never when_read : Due

pub record Queued : Type 0 where
  pub id : ℤ
  pub due : Due

-- lines go to links
pub record Outcome : Type 0 where
  pub result : Result
  pub ticks_used : ℕ
  pub output : List (ℤ × Text)
  pub queued : List Queued
  pub closed : List ℤ
  pub checkpoint : Bool
