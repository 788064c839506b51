-- What the fields of an outcome mean.
use Rattle.std.specs.Prelude.{ℕ, ℤ, pos, List, map, string_bytes}
use Rattle.spec_value.specs.Datum.{Text}
use Rattle.spec_world.specs.Outcome.{Result, value_of, raised_by, suspended, reading, ran_out, killed, none, absent, early, ended, Due as DueMoment, at_moment, never, when_read, Queued as QueuedTask}
use Rattle.task_step.specs.declared.outcome.Ending.{Ending}
use Rattle.task_step.specs.declared.outcome.Ending.TheVariants.{Value, Raised, Suspended, Reading, OutOfTicks, Killed, Nothing, Absent, Early, Ended}
use Rattle.task_step.specs.declared.outcome.OutputLine.{OutputLine}
use Rattle.task_step.specs.declared.outcome.Queued.{Queued}
use Rattle.task_step.specs.declared.outcome.Due.{Due}
use Rattle.task_step.specs.declared.outcome.Due.TheVariants.{At, Never, Line}

abbrev pub result_of : Ending → Result
result_of (Value v) = value_of v
result_of (Raised v) = raised_by v
result_of Suspended = suspended
result_of Reading = reading
result_of OutOfTicks = ran_out
result_of Killed = killed
result_of Nothing = none
result_of Absent = absent
result_of Early = early
result_of Ended = ended

abbrev pub lines_of : List OutputLine → List (ℤ × Text)
lines_of = map (λ l. (pos l.connection, string_bytes l.text))

abbrev pub due_of : Due → DueMoment
due_of (At t) = at_moment t
due_of Never = never
due_of Line = when_read

abbrev pub queued_of : List Queued → List QueuedTask
queued_of = map (λ q. record { id = q.task; due = due_of q.due })

abbrev pub closed_of : List ℕ → List ℤ
closed_of = map pos
