-- What went into a ring of lines and what came out of it.
use Rattle.std.specs.Prelude.{◌≡◌, ◌++◌, ◌∷◌, [], List, String}
use Rattle.std.specs.Global.{Global}
use Rattle.rtrb.specs.Ends.{SameRing}
use Rattle.rtrb.specs.Ring.{sent, received, known_items, all_sent, IsPair, IsFinishedOf, SameConsumer, SameProducer, Finishes}
use Rattle.connections.specs.declared.lines.LineSender.{LineSender}
use Rattle.connections.specs.declared.lines.LineTaker.{LineTaker}
use Rattle.connections.specs.declared.lines.Sent.{Sent}

-- every line sent so far
abbrev pub lines_sent : LineSender → List (String Global)
lines_sent s = sent s.producer

-- every line taken so far
abbrev pub lines_taken : LineTaker → List (String Global)
lines_taken t = received t.consumer

-- the lines that the taker knows to be in the ring; once it is settled, all that are left
abbrev pub lines_left : LineTaker → List (String Global)
lines_left t = known_items t.consumer

-- every line that was ever sent
abbrev pub all_lines : Sent → List (String Global)
all_lines s = all_sent s.finished

-- the two ends of one ring
abbrev pub IsRing : LineSender → LineTaker → Type 0
IsRing s t = IsPair s.producer t.consumer

-- all that was sent into this taker's ring
abbrev pub IsSentOf : Sent → LineTaker → Type 0
IsSentOf s t = IsFinishedOf s.finished t.consumer

abbrev pub SameSender : LineSender → LineSender → Type 0
SameSender a b = SameProducer a.producer b.producer

abbrev pub SameTaker : LineTaker → LineTaker → Type 0
SameTaker a b = SameConsumer a.consumer b.consumer

-- all that this sender sent
abbrev pub Ends : LineSender → Sent → Type 0
Ends a s = Finishes a.producer s.finished

-- what was sent is of this sender's ring
abbrev pub FromSender : LineSender → Sent → Type 0
FromSender a s = SameRing a.producer.end s.finished.end

-- ---- a line that is told: the ends of the ring and the lines beyond it, before and after

-- it went into the ring, and nothing waits beyond
abbrev pub IsSent : LineSender → LineSender → List (String Global) → List (String Global) → String Global → Type 0
IsSent a b xs ys line = (lines_sent b ≡ lines_sent a ++ line ∷ []) × (xs ≡ []) × (ys ≡ [])

-- it waits beyond the ring, behind the others
abbrev pub IsKept : LineSender → LineSender → List (String Global) → List (String Global) → String Global → Type 0
IsKept a b xs ys line = (lines_sent b ≡ lines_sent a) × (ys ≡ xs ++ line ∷ [])

-- there was no memory for it
abbrev pub IsLost : LineSender → LineSender → List (String Global) → List (String Global) → Type 0
IsLost a b xs ys = (lines_sent b ≡ lines_sent a) × (ys ≡ xs)
