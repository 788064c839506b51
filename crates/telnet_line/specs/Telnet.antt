-- Telnet (RFC 854): the units of a byte stream, and the lines and replies that they spell.
use Rattle.std.specs.Prelude.{◌≡◌, ◌≢◌, ℕ, ◌-◌, ◌<◌, ◌≤◌, true, ◌==◌, ◌&&◌, nat_lt, if◌then◌else◌, List, [], ◌∷◌, ◌++◌, length, take}
use Rattle.std.specs.List.{AllByRecursion, flat_map, list_all}
use Rattle.spec_value.specs.Datum.{is_character}

-- ---- bytes, by their names in RFC 854

abbrev pub NUL : ℕ
NUL = 0

abbrev pub LF : ℕ
LF = 10

abbrev pub CR : ℕ
CR = 13

-- the end of a subnegotiation, and the least command
abbrev pub SE : ℕ
SE = 240

-- "are you there"
abbrev pub AYT : ℕ
AYT = 246

-- erase character
abbrev pub EC : ℕ
EC = 247

-- erase line
abbrev pub EL : ℕ
EL = 248

-- the beginning of a subnegotiation
abbrev pub SB : ℕ
SB = 250

abbrev pub WILL : ℕ
WILL = 251

abbrev pub WONT : ℕ
WONT = 252

abbrev pub DO : ℕ
DO = 253

abbrev pub DONT : ℕ
DONT = 254

-- "interpret as command"
abbrev pub IAC : ℕ
IAC = 255

-- ---- units

-- what the other side says of an option
pub data Verb : Type 0 where
  Will : Verb
  Wont : Verb
  Do : Verb
  Dont : Verb

abbrev pub code : Verb → ℕ
code Will = WILL
code Wont = WONT
code Do = DO
code Dont = DONT

-- what stands between SB and the closing IAC SE: a byte other than IAC, or IAC and a byte other than SE
pub data Parameter : Type 0 where
  Plain : ℕ → Parameter
  After_iac : ℕ → Parameter

abbrev pub IsParameter : Parameter → Type 0
IsParameter (Plain b) = b ≢ IAC
IsParameter (After_iac b) = b ≢ SE

abbrev pub parameter_bytes : Parameter → List ℕ
parameter_bytes (Plain b) = b ∷ []
parameter_bytes (After_iac b) = IAC ∷ b ∷ []

pub data StreamUnit : Type 0 where
  Data : ℕ → StreamUnit  -- a byte other than LF, CR and IAC
  Data_iac : StreamUnit  -- IAC IAC: the byte 255 as data
  Line_feed : StreamUnit  -- LF with no CR before it
  Return_line_feed : StreamUnit  -- CR LF
  Return_null : StreamUnit  -- CR NUL
  Lone_return : StreamUnit  -- CR before any other byte
  Lone_iac : StreamUnit  -- IAC before a byte below SE
  Command : ℕ → StreamUnit  -- IAC and a byte from SE on that is none of SB, WILL to DONT, IAC
  Negotiation : Verb → ℕ → StreamUnit  -- IAC, WILL, WONT, DO or DONT, and any byte as option
  Subnegotiation : List Parameter → StreamUnit  -- IAC SB to IAC SE

abbrev pub IsUnit : StreamUnit → Type 0
IsUnit (Data b) = (b ≢ LF) × (b ≢ CR) × (b ≢ IAC)
IsUnit (Command c) = (SE ≤ c) × (c ≢ SB) × (c ≢ WILL) × (c ≢ WONT) × (c ≢ DO) × (c ≢ DONT) × (c ≢ IAC)
IsUnit (Subnegotiation parameters) = AllByRecursion IsParameter parameters
IsUnit _ = Unit {0}

-- the bytes of a unit
abbrev pub spelling : StreamUnit → List ℕ
spelling (Data b) = b ∷ []
spelling Data_iac = IAC ∷ IAC ∷ []
spelling Line_feed = LF ∷ []
spelling Return_line_feed = CR ∷ LF ∷ []
spelling Return_null = CR ∷ NUL ∷ []
spelling Lone_return = CR ∷ []
spelling Lone_iac = IAC ∷ []
spelling (Command c) = IAC ∷ c ∷ []
spelling (Negotiation verb option) = IAC ∷ code verb ∷ option ∷ []
spelling (Subnegotiation parameters) = IAC ∷ SB ∷ (flat_map parameter_bytes parameters ++ IAC ∷ SE ∷ [])

abbrev pub BeginsWith : (ℕ → Type 0) → List ℕ → Type 0
BeginsWith P [] = ⊥
BeginsWith P (b ∷ bytes) = P b

-- a CR and an IAC that stand for themselves are told by the byte after them, which is none of theirs
abbrev pub MayPrecede : StreamUnit → List ℕ → Type 0
MayPrecede Lone_return after = BeginsWith (λ b. (b ≢ LF) × (b ≢ NUL)) after
MayPrecede Lone_iac after = BeginsWith (λ b. b < SE) after
MayPrecede _ after = Unit {0}

-- a beginning of a unit, also the empty one, that is not all of it
abbrev pub IsUnfinished : List ℕ → Type 0
IsUnfinished bytes = (u : StreamUnit) × (b : ℕ) × (more : List ℕ) × IsUnit u × (spelling u ≡ bytes ++ b ∷ more)

-- the stream is these units, and then a rest that is no whole unit
pub data IsCut : List ℕ → List StreamUnit → List ℕ → Type 0 where
  rest : {bytes : List ℕ} → IsUnfinished bytes → IsCut bytes [] bytes
  unit : {after rest : List ℕ} {units : List StreamUnit} (u : StreamUnit) → IsUnit u → MayPrecede u after → IsCut after units rest → IsCut (spelling u ++ after) (u ∷ units) rest

-- ---- what units spell

-- a line that has ended, or bytes that are to be sent back
pub data Event : Type 0 where
  Line : List ℕ → Event
  Reply : List ℕ → Event

-- the most characters that are kept of a line
abbrev pub max_line : ℕ
max_line = 4096

-- what may be kept of a line
abbrev pub IsText : List ℕ → Type 0
IsText text = (length text ≤ max_line) × (list_all is_character text ≡ true)

abbrev pub IsEvent : Event → Type 0
IsEvent (Line text) = IsText text
IsEvent (Reply bytes) = Unit {0}

-- the line, and a byte of data after it
abbrev pub with_data : List ℕ → ℕ → List ℕ
with_data line b = if is_character b && nat_lt (length line) max_line then line ++ b ∷ [] else line

abbrev pub without_last : List ℕ → List ℕ
without_last line = take (length line - 1) line

-- the line so far, after a command
abbrev pub commanded : List ℕ → ℕ → List ℕ
commanded line c = if c == EC then without_last line else (if c == EL then [] else line)

-- the line so far, after a unit
abbrev pub line_after : List ℕ → StreamUnit → List ℕ
line_after line (Data b) = with_data line b
line_after line Data_iac = with_data line IAC
line_after line Line_feed = []
line_after line Return_line_feed = []
line_after line (Command c) = commanded line c
line_after line _ = line

-- "[Yes]" CR LF
abbrev pub yes : List ℕ
yes = 91 ∷ 89 ∷ 101 ∷ 115 ∷ 93 ∷ CR ∷ LF ∷ []

-- every option is refused
abbrev pub negotiated : Verb → ℕ → List Event
negotiated Will option = Reply (IAC ∷ DONT ∷ option ∷ []) ∷ []
negotiated Wont option = []
negotiated Do option = Reply (IAC ∷ WONT ∷ option ∷ []) ∷ []
negotiated Dont option = []

-- what a unit brings, after this line so far
abbrev pub brought : List ℕ → StreamUnit → List Event
brought line Line_feed = Line line ∷ []
brought line Return_line_feed = Line line ∷ []
brought line (Command c) = if c == AYT then Reply yes ∷ [] else []
brought line (Negotiation verb option) = negotiated verb option
brought line _ = []

-- the line so far after these units, and their events
abbrev pub line_of : List ℕ → List StreamUnit → List ℕ
line_of line [] = line
line_of line (u ∷ units) = line_of (line_after line u) units

abbrev pub events_of : List ℕ → List StreamUnit → List Event
events_of line [] = []
events_of line (u ∷ units) = brought line u ++ events_of (line_after line u) units

-- the lines and replies of a whole stream
pub record Spells (stream : List ℕ) (events : List Event) : Type 0 where
  pub units : List StreamUnit
  pub rest : List ℕ
  pub cut : IsCut stream units rest
  pub meant : events ≡ events_of [] units
