-- The lines that a run prints for its steps.
use Rattle.std.specs.Prelude.{ℕ, ℤ, List, [], ◌∷◌, ◌++◌, codes}
use Rattle.std.specs.List.{flat_map}
use Rattle.std.specs.Fmt.{decimal, signed_decimal}
use Rattle.spec_value.specs.Datum.{Text}
use Rattle.spec_value.specs.Literal.{literal}
use Rattle.spec_world.specs.Step.{Step}
use Rattle.spec_world.specs.Outcome.{Outcome, Result, value_of, raised_by, suspended, reading, ran_out, killed, none, absent, early, ended, Due, at_moment, never, when_read, Queued}

-- how a step ended; values and errors are literals
abbrev pub result_text : Result → Text
result_text (value_of v) = codes "value " ++ literal v
result_text (raised_by e) = codes "raised " ++ literal e
result_text suspended = codes "suspended"
result_text reading = codes "reading"
result_text ran_out = codes "ticks"
result_text killed = codes "killed"
result_text none = codes "none"
result_text absent = codes "absent"
result_text early = codes "early"
result_text ended = codes "ended"

-- a line told to a connection
abbrev pub told_line : ℤ × Text → Text
told_line l = codes "> " ++ (signed_decimal l.0 ++ (codes " " ++ (l.1 ++ 10 ∷ [])))

abbrev pub due_text : Due → Text
due_text (at_moment m) = decimal m
due_text never = codes "never"
due_text when_read = codes "read"

-- a task put in the queue
abbrev pub queued_line : Queued → Text
queued_line q = codes "+ " ++ (signed_decimal q.id ++ (codes " " ++ (due_text q.due ++ 10 ∷ [])))

-- a connection that the step closed
abbrev pub closed_line : ℤ → Text
closed_line c = codes "! " ++ (signed_decimal c ++ 10 ∷ [])

-- the line of a step that ended so, with the ticks that it used
abbrev pub ended_line : ℕ → Result → ℕ → Text
ended_line n r t = codes "step " ++ (decimal n ++ (codes " " ++ (result_text r ++ (codes " ticks " ++ (decimal t ++ 10 ∷ [])))))

abbrev pub step_line : ℕ → Outcome → Text
step_line n o = ended_line n o.result o.ticks_used

-- the lines of a step with this number
abbrev pub outcome_lines : ℕ → Outcome → Text
outcome_lines n o = step_line n o ++ (flat_map told_line o.output ++ (flat_map queued_line o.queued ++ flat_map closed_line o.closed))

-- the lines of steps, in order
abbrev pub printed : List Step → List Outcome → Text
printed [] os = []
printed (s ∷ ss) [] = []
printed (s ∷ ss) (o ∷ os) = outcome_lines s.number o ++ printed ss os

-- memory ran out after so many steps
abbrev pub stopped_line : ℕ → Text
stopped_line n = codes "stopped after " ++ (decimal n ++ 10 ∷ [])
