-- What was read of streams.
use Rattle.std.specs.Prelude.{◌≡◌, ◌<◌, ◌+◌, ℕ, List, [], ◌∷◌, ◌++◌, length, map, get_or, Vec}
use Rattle.std.specs.Global.{Global}
use Rattle.telnet_line.specs.Telnet.{Event, Spells}
use Rattle.telnet_line.specs.TelnetReading.{Reading, HasRead}
use Rattle.telnet_line.specs.declared.event.Event.{Event as Given}
use Rattle.telnet_line.specs.Events.{events_given}

-- of a stream, what was read spells these events, and this is left
pub record ReadPart (stream left : List ℕ) (events : List Event) (reading : Reading) : Type 0 where
  pub past : List ℕ
  pub whole : past ++ left ≡ stream
  pub read : HasRead past events reading

-- each stream spells its events
abbrev pub EachSpells : List (List ℕ) → List (List Event) → Type 0
EachSpells [] [] = Unit {0}
EachSpells (s ∷ ss) (es ∷ ess) = Spells s es × EachSpells ss ess
EachSpells _ _ = ⊥

abbrev pub all_given : List (Vec Given Global) → List (List Event)
all_given all = map (λ events. events_given events.items) all

-- the count of this number, from 1 on, has risen by one
abbrev pub Rises : ℕ → List ℕ → List ℕ → Type 0
Rises n old new = (k : ℕ) × (n ≡ k + 1) × (k < length old) × (get_or new k 0 ≡ get_or old k 0 + 1)
