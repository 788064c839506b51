-- How the outcome of a step is printed: its result and ticks, its output, the tasks that it queued, and the links that it closed.
use Rattle.std.specs.Prelude.{ℕ, ℤ, List, [], ◌∷◌, ◌++◌, codes}
use Rattle.std.specs.Fmt.{decimal, signed_decimal}
use Rattle.spec_value.specs.Datum.{Text}
use Rattle.spec_value.specs.Literal.{literal}
use Rattle.spec_world.specs.Outcome.{Due, at_moment, never, when_read, Queued}
use Rattle.spec_world.specs.Outcome.{Result, value_of, raised_by, suspended, reading, ran_out, killed, none, absent, early, ended, Outcome}

abbrev pub result_text : Result → Text
result_text (value_of v) = codes "value " ++ literal v
result_text (raised_by c) = codes "raised " ++ literal c
result_text suspended = codes "suspended"
result_text reading = codes "reading"
result_text ran_out = codes "ticks"
result_text killed = codes "killed"
result_text none = codes "none"
result_text absent = codes "absent"
result_text early = codes "early"
result_text ended = codes "ended"

abbrev pub step_line : ℕ → Outcome → Text
step_line n o = codes "step " ++ (decimal n ++ (32 ∷ (result_text o.result ++ (codes " ticks " ++ decimal o.ticks_used))))

abbrev pub output_lines : List (ℤ × Text) → List Text
output_lines [] = []
output_lines (e ∷ es) = (codes "> " ++ (signed_decimal e.0 ++ (32 ∷ e.1))) ∷ output_lines es

abbrev pub due_text : Due → Text
due_text (at_moment m) = decimal m
due_text never = codes "never"
due_text when_read = codes "read"

abbrev pub queued_lines : List Queued → List Text
queued_lines [] = []
queued_lines (q ∷ qs) = (codes "+ " ++ (signed_decimal q.id ++ (32 ∷ due_text q.due))) ∷ queued_lines qs

abbrev pub closed_lines : List ℤ → List Text
closed_lines [] = []
closed_lines (c ∷ cs) = (codes "! " ++ signed_decimal c) ∷ closed_lines cs

abbrev pub outcome_lines : ℕ → Outcome → List Text
outcome_lines n o = step_line n o ∷ (output_lines o.output ++ (queued_lines o.queued ++ closed_lines o.closed))
