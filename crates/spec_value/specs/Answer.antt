-- What an operation answers (Programmer's Manual, "The MOO Programming Language"): a value, or the error that it raises.
use Rattle.std.specs.Prelude.{ℕ, ◌-◌, ◌^◌, min, Bool, nat_le, if◌then◌else◌, pos}
use Rattle.spec_value.specs.Datum.{Datum, integer, ErrorCode, limit_exceeded, weight}

pub data Answer : Type 0 where
  gives : Datum → Answer
  raises : ErrorCode → Answer

-- no result may weigh more
abbrev pub weight_limit : ℕ
weight_limit = 65536

abbrev pub is_allowed : Datum → Bool
is_allowed d = nat_le (weight d) weight_limit

abbrev pub limited : Datum → Answer
limited d = if is_allowed d then gives d else raises limit_exceeded

-- an answer whose value is limited
abbrev pub limited_answer : Answer → Answer
limited_answer (gives d) = limited d
limited_answer (raises e) = raises e

-- a truth value of the language
abbrev pub truth : Bool → Datum
truth b = integer (if b then pos 1 else pos 0)

-- a count as a value: the greatest number for what is more
abbrev pub count : ℕ → Datum
count n = integer (pos (min n (2 ^ 31 - 1)))
