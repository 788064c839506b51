-- What a session plays, and what it writes.
use Rattle.std.specs.Prelude.{ℕ, zero, suc, ◌==◌, ℤ, pos, negsuc, if◌then◌else◌, List, [], ◌∷◌, ◌++◌, length}
use Rattle.spec_value.specs.Datum.{Text}
use Rattle.telnet_line.specs.Telnet as telnet
use Rattle.telnet_line.specs.Telnet.{CR, LF}
use Rattle.spec_world.specs.Step.{Step, Event, open_link, close_link, line_of}
use Rattle.spec_world.specs.Outcome.{Outcome}

-- ---- steps

-- so many connections are opened, from this number on
abbrev pub opens : ℕ → ℕ → List Event
opens c zero = []
opens c (suc k) = open_link (pos c) ∷ opens (suc c) k

-- so many are closed
abbrev pub closes : ℕ → ℕ → List Event
closes c zero = []
closes c (suc k) = close_link (pos c) ∷ closes (suc c) k

-- the lines that a connection says
abbrev pub lines_of : ℕ → List telnet.Event → List Event
lines_of c [] = []
lines_of c (telnet.Line text ∷ events) = line_of (pos c) text ∷ lines_of c events
lines_of c (telnet.Reply bytes ∷ events) = lines_of c events

-- all lines of one connection, then of the next
abbrev pub talk : ℕ → List (List telnet.Event) → List Event
talk c [] = []
talk c (events ∷ others) = lines_of c events ++ talk (suc c) others

-- connections from 1 on, one for each stream, are opened, say all their lines and are closed
abbrev pub happenings : List (List telnet.Event) → List Event
happenings all = opens 1 (length all) ++ (talk 1 all ++ closes 1 (length all))

-- events in order, with steps numbered on from n
abbrev pub steps_from : ℕ → ℕ → List ℕ → List Event → List Step
steps_from n moment key [] = []
steps_from n moment key (e ∷ es) = record { number = n; moment = moment; key = key; event = e } ∷ steps_from (suc n) moment key es

abbrev pub session_steps : ℕ → ℕ → List ℕ → List (List telnet.Event) → List Step
session_steps n moment key all = steps_from n moment key (happenings all)

-- ---- what is written

abbrev pub ended_line : Text → List ℕ
ended_line text = text ++ CR ∷ LF ∷ []

-- the lines that a connection is told, each with its end
abbrev pub told_to : ℕ → List (ℤ × Text) → List ℕ
told_to c [] = []
told_to c ((pos d, text) ∷ lines) = (if d == c then ended_line text else []) ++ told_to c lines
told_to c ((negsuc d, text) ∷ lines) = told_to c lines

-- a connection's output: its lines in the order of steps
abbrev pub output_of : ℕ → List Outcome → List ℕ
output_of c [] = []
output_of c (o ∷ os) = told_to c o.output ++ output_of c os

-- its replies
abbrev pub replies : List telnet.Event → List ℕ
replies [] = []
replies (telnet.Line text ∷ events) = replies events
replies (telnet.Reply bytes ∷ events) = bytes ++ replies events

-- its replies, and then its output
abbrev pub text_for : ℕ → List telnet.Event → List Outcome → List ℕ
text_for c events outcomes = replies events ++ output_of c outcomes

-- the texts of all connections, from this number on
abbrev pub texts_from : ℕ → List (List telnet.Event) → List Outcome → List (List ℕ)
texts_from c [] outcomes = []
texts_from c (events ∷ others) outcomes = text_for c events outcomes ∷ texts_from (suc c) others outcomes
