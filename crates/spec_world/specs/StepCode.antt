-- How the logic stores steps and outcomes.
use Rattle.std.specs.Prelude.{◌≡◌, ℕ, ℤ, pos, List, [], Bool, ◌==◌, cond, refl}
use Rattle.std.specs.Coded.{Coded, code_by, coded×, coded_list, coded_bool, coded_ℕ, coded_ℤ}
use Rattle.spec_value.specs.Datum.{Datum, Text, integer}
use Rattle.spec_value.specs.DatumCode.{datum_code}
use Rattle.spec_world.specs.WorldCode.{text_code}
use Rattle.spec_world.specs.Step.{Event, open_link, close_link, line_of, ready_task, Step}
use Rattle.spec_world.specs.Outcome.{Result, value_of, raised_by, suspended, reading, ran_out, killed, none, absent, early, ended, Due, at_moment, never, when_read, Queued, Outcome}

-- ---- steps

abbrev pub from_event : Event → ℕ × (ℤ × Text)
from_event (open_link c) = (0, (c, []))
from_event (close_link c) = (1, (c, []))
from_event (line_of c t) = (2, (c, t))
from_event (ready_task i) = (3, (i, []))

abbrev pub to_event : ℕ × (ℤ × Text) → Event
to_event e = cond (e.0 == 0) (open_link e.1.0) (cond (e.0 == 1) (close_link e.1.0) (cond (e.0 == 2) (line_of e.1.0 e.1.1) (ready_task e.1.0)))

pub event_back : (e : Event) → to_event (from_event e) ≡ e
event_back (open_link c) = refl
event_back (close_link c) = refl
event_back (line_of c t) = refl
event_back (ready_task i) = refl

abbrev pub event_code : Coded Event
event_code = code_by (ℕ × (ℤ × Text)) (coded× coded_ℕ (coded× coded_ℤ text_code)) from_event to_event event_back

abbrev pub step_code : Coded Step
step_code =
    code_by (ℕ × (ℕ × (List ℕ × Event))) (coded× coded_ℕ (coded× coded_ℕ (coded× (coded_list coded_ℕ) event_code)))
    (λ s. (s.number, (s.moment, (s.key, s.event)))) (λ p. record { number = p.0; moment = p.1.0; key = p.1.1.0; event = p.1.1.1 }) (λ _. refl)

-- ---- outcomes

abbrev pub from_result : Result → ℕ × Datum
from_result (value_of v) = (0, v)
from_result (raised_by v) = (1, v)
from_result suspended = (2, integer (pos 0))
from_result reading = (3, integer (pos 0))
from_result ran_out = (4, integer (pos 0))
from_result killed = (5, integer (pos 0))
from_result none = (6, integer (pos 0))
from_result absent = (7, integer (pos 0))
from_result early = (8, integer (pos 0))
from_result ended = (9, integer (pos 0))

abbrev pub to_result : ℕ × Datum → Result
to_result p =
    cond (p.0 == 0) (value_of p.1) (cond (p.0 == 1) (raised_by p.1) (cond (p.0 == 2) suspended (cond (p.0 == 3) reading (cond (p.0 == 4) ran_out
    (cond (p.0 == 5) killed (cond (p.0 == 6) none (cond (p.0 == 7) absent (cond (p.0 == 8) early ended))))))))

pub result_back : (r : Result) → to_result (from_result r) ≡ r
result_back (value_of v) = refl
result_back (raised_by v) = refl
result_back suspended = refl
result_back reading = refl
result_back ran_out = refl
result_back killed = refl
result_back none = refl
result_back absent = refl
result_back early = refl
result_back ended = refl

abbrev pub result_code : Coded Result
result_code = code_by (ℕ × Datum) (coded× coded_ℕ datum_code) from_result to_result result_back

abbrev pub from_due : Due → ℕ × ℕ
from_due (at_moment t) = (0, t)
from_due never = (1, 0)
from_due when_read = (2, 0)

abbrev pub to_due : ℕ × ℕ → Due
to_due p = cond (p.0 == 0) (at_moment p.1) (cond (p.0 == 1) never when_read)

pub due_back : (d : Due) → to_due (from_due d) ≡ d
due_back (at_moment t) = refl
due_back never = refl
due_back when_read = refl

abbrev pub due_code : Coded Due
due_code = code_by (ℕ × ℕ) (coded× coded_ℕ coded_ℕ) from_due to_due due_back

abbrev pub queued_code : Coded Queued
queued_code = code_by (ℤ × Due) (coded× coded_ℤ due_code) (λ q. (q.id, q.due)) (λ p. record { id = p.0; due = p.1 }) (λ _. refl)

abbrev pub Told : Type 0
Told = List (ℤ × Text)

abbrev pub outcome_code : Coded Outcome
outcome_code =
    code_by (Result × (ℕ × (Told × (List Queued × (List ℤ × Bool)))))
    (coded× result_code (coded× coded_ℕ (coded× (coded_list (coded× coded_ℤ text_code)) (coded× (coded_list queued_code) (coded× (coded_list coded_ℤ) coded_bool)))))
    (λ o. (o.result, (o.ticks_used, (o.output, (o.queued, (o.closed, o.checkpoint))))))
    (λ p. record { result = p.0; ticks_used = p.1.0; output = p.1.1.0; queued = p.1.1.1.0; closed = p.1.1.1.1.0; checkpoint = p.1.1.1.1.1 }) (λ _. refl)
