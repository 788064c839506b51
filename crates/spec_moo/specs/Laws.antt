-- Laws of turns and segments, in the subject's own words.
use Rattle.std.specs.Prelude.{◌≡◌, ◌≤◌, ◌<◌, ℕ, true}
use Rattle.spec_value.specs.Datum.{Datum}
use Rattle.spec_world.specs.World.{Native}
use Rattle.spec_moo.specs.Scene.{Scene}
use Rattle.spec_moo.specs.NativeEffect as N
use Rattle.spec_moo.specs.Natives.{native_turn}
use Rattle.spec_moo.specs.Pending.{Pending}
use Rattle.spec_moo.specs.Turn.{cost}
use Rattle.spec_moo.specs.Sizes.{native_stages, begins_stage}
use Rattle.spec_moo.specs.Segment.{Settled, charges, begins, ends, settled, reached, Ended, segment, Course, runs, stops, Leads}

-- ---- the bounds of a segment

-- it ended, or its next turn costs a tick, or brings a built-in the value that it waited for
abbrev pub IsSettled : Settled → Type 0
IsSettled (charges s p) = cost p ≡ 1
IsSettled (begins s p) = begins_stage p ≡ true
IsSettled (ends s why) = Unit {0}

-- it ended, or its next turn costs a tick
abbrev pub IsReached : Settled → Type 0
IsReached (charges s p) = cost p ≡ 1
IsReached (begins s p) = ⊥
IsReached (ends s why) = Unit {0}

-- the size of what is pending bounds the turns that cost nothing
abbrev pub SizeSuffices : Type 0
SizeSuffices = (s : Scene) (p : Pending) → IsSettled (settled s p)

-- the stages of begun built-ins bound those between two charges
abbrev pub StagesSuffice : Type 0
StagesSuffice = (s : Scene) (p : Pending) → IsReached (reached s p)

-- since a built-in that waited begins no stage but a later one
abbrev pub IsLaterThan : Native → N.NativeEffect → Type 0
IsLaterThan n (N.begins s m d body args) = native_stages m < native_stages n
IsLaterThan n e = Unit {0}

abbrev pub StagesRise : Type 0
StagesRise = (s : Scene) (c : N.Caller) (n : Native) (v : Datum) → IsLaterThan n (native_turn s c n v)

-- ---- the end of a segment

-- turn by turn, a task comes to one stop alone
abbrev pub OneStop : Type 0
OneStop = (c : Course) (d e : Ended) → Leads c (stops d) → Leads c (stops e) → d ≡ e

-- and that is the end of its segment
abbrev pub SegmentStops : Type 0
SegmentStops = (t : ℕ) (s : Scene) (p : Pending) → Leads (runs t s p) (stops (segment t s p))

abbrev pub StopsAsSegment : Type 0
StopsAsSegment = (t : ℕ) (s : Scene) (p : Pending) (e : Ended) → Leads (runs t s p) (stops e) → e ≡ segment t s p

-- no more ticks are left than were given
abbrev pub TicksFall : Type 0
TicksFall = (t : ℕ) (s : Scene) (p : Pending) → (segment t s p).ticks_left ≤ t
