-- A reader of a Telnet stream, a byte at a time.
use Rattle.std.specs.Prelude.{ℕ, ◌==◌, nat_lt, if◌then◌else◌, List, [], ◌∷◌, ◌++◌, ◌-◌, length, take}
use Rattle.telnet_line.specs.Telnet.{NUL, LF, CR, SE, SB, WILL, WONT, DO, DONT, IAC, Will, Wont, Do, Dont, StreamUnit, Data, Return_line_feed, Line_feed, Command, Negotiation, Event, Reply, max_line, line_after, brought}
use Rattle.telnet_line.specs.TelnetReading.{Begun, Nothing, Return, Iac, Negotiating, Parameters, Parameters_iac, Reading}

-- a reader that has read nothing
abbrev pub fresh : Reading
fresh = record { begun = Nothing; line = [] }

-- where a byte leaves the reader, and what it brings
pub record Step : Type 0 where
  pub reading : Reading
  pub events : List Event

abbrev pub holds : Begun → List ℕ → Step
holds begun line = record { reading = record { begun = begun; line = line }; events = [] }

-- the byte makes this unit whole
abbrev pub takes : StreamUnit → List ℕ → Step
takes u line = record { reading = record { begun = Nothing; line = line_after line u }; events = brought line u }

abbrev pub replies : List ℕ → List ℕ → Step
replies bytes line = record { reading = record { begun = Nothing; line = line }; events = Reply bytes ∷ [] }

abbrev pub step_data : ℕ → List ℕ → Step
step_data b line = if b == LF then takes Line_feed line else (if b == CR then holds Return line else (if b == IAC then holds Iac line else takes (Data b) line))

abbrev pub step_return : ℕ → List ℕ → Step
step_return b line = if b == LF then takes Return_line_feed line else (if b == NUL then holds Nothing line else step_data b line)

abbrev pub step_iac : ℕ → List ℕ → Step
step_iac b line =
    if nat_lt b SE then step_data b line
    else (if b == SB then holds Parameters line
    else (if b == WILL then holds (Negotiating Will) line
    else (if b == WONT then holds (Negotiating Wont) line
    else (if b == DO then holds (Negotiating Do) line
    else (if b == DONT then holds (Negotiating Dont) line
    else (if b == IAC then holds Nothing line
    else takes (Command b) line))))))

abbrev pub step_by : Begun → ℕ → List ℕ → Step
step_by Nothing b line = step_data b line
step_by Return b line = step_return b line
step_by Iac b line = step_iac b line
step_by (Negotiating verb) b line = takes (Negotiation verb b) line
step_by Parameters b line = if b == IAC then holds Parameters_iac line else holds Parameters line
step_by Parameters_iac b line = if b == SE then holds Nothing line else holds Parameters line

abbrev pub step : ℕ → Reading → Step
step b reading = step_by reading.begun b reading.line

-- the line, and characters after it, as many as there is room for
abbrev pub with_all : List ℕ → List ℕ → List ℕ
with_all line characters = line ++ take (max_line - length line) characters

-- where bytes leave the reader
abbrev pub reading_after : Reading → List ℕ → Reading
reading_after reading [] = reading
reading_after reading (b ∷ bytes) = reading_after (step b reading).reading bytes

-- what they bring
abbrev pub events_after : Reading → List ℕ → List Event
events_after reading [] = []
events_after reading (b ∷ bytes) = (step b reading).events ++ events_after (step b reading).reading bytes
