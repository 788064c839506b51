-- Where a reader of a Telnet stream stands between two bytes: the line so far, and what has begun of the next unit.
use Rattle.std.specs.Prelude.{◌≡◌, ℕ, List, [], ◌∷◌, ◌++◌}
use Rattle.std.specs.List.{AllByRecursion, flat_map}
use Rattle.telnet_line.specs.Telnet.{CR, SB, IAC, Verb, code, Parameter, IsParameter, parameter_bytes, Event, Spells, line_of}

pub data Begun : Type 0 where
  Nothing : Begun
  Return : Begun  -- CR
  Iac : Begun  -- IAC
  Negotiating : Verb → Begun  -- IAC and a verb
  Parameters : Begun  -- IAC SB and parameters
  Parameters_iac : Begun  -- the same, and an IAC

-- the bytes that have begun a unit
abbrev pub HasBegun : Begun → List ℕ → Type 0
HasBegun Nothing bytes = bytes ≡ []
HasBegun Return bytes = bytes ≡ CR ∷ []
HasBegun Iac bytes = bytes ≡ IAC ∷ []
HasBegun (Negotiating verb) bytes = bytes ≡ IAC ∷ code verb ∷ []
HasBegun Parameters bytes = (ps : List Parameter) × AllByRecursion IsParameter ps × (bytes ≡ IAC ∷ SB ∷ flat_map parameter_bytes ps)
HasBegun Parameters_iac bytes = (ps : List Parameter) × AllByRecursion IsParameter ps × (bytes ≡ IAC ∷ SB ∷ (flat_map parameter_bytes ps ++ IAC ∷ []))

pub record Reading : Type 0 where
  pub begun : Begun
  pub line : List ℕ

-- a reader that stands so has read this stream, which spells these events
pub record HasRead (stream : List ℕ) (events : List Event) (reading : Reading) : Type 0 where
  pub spells : Spells stream events
  pub line : reading.line ≡ line_of [] spells.units
  pub begun : HasBegun reading.begun spells.rest
