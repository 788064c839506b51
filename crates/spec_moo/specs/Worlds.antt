-- What running tasks keep of the world: its objects, links and queue agree after each turn, segment, step and list of steps.
use Rattle.std.specs.Prelude.{max, ◌∷◌, ◌++◌, ◌≡◌, ◌≤◌, ℕ, suc, ◌-◌, ◌*◌, ◌==◌, ℤ, pos, int_le, nat_le, nat_lt, Bool, ◌&&◌, List, length, Option, Some, None, is_some, IsTrue}
use Rattle.std.specs.List.{list_all}
use Rattle.spec_value.specs.Datum.{Datum, Text, is_text, in_number_range}
use Rattle.spec_value.specs.Table.{at}
use Rattle.spec_world.specs.World.{frame_entry, World, Native, Waiting, forked, timed, idle, reading_on}
use Rattle.spec_world.specs.WellFormed.{OfEachTask, IsWellFormed, native_fits, is_connection, is_moment, FramesStand}
use Rattle.spec_world.specs.Agreeing.{frames_hold, EntriesHold, Agrees}
use Rattle.spec_world.specs.Links.{reader_of}
use Rattle.spec_moo.specs.Scene.{Scene}
use Rattle.spec_moo.specs.NativeEffect.{Caller, NativeEffect, answers, complains, begins, waits, dies, becomes}
use Rattle.spec_moo.specs.Natives.{native, native_turn}
use Rattle.spec_moo.specs.Pending.{Pending, Stop, waiting, Turned, goes_on, halts}
use Rattle.spec_moo.specs.Turn.{turn}
use Rattle.spec_moo.specs.Standing.{Stands}
use Rattle.spec_moo.specs.Segment.{segment}
use Rattle.spec_world.specs.Step.{Step, in_range}
use Rattle.spec_moo.specs.Steps.{play1, play}

-- ---- a scene: its world agrees and has this next number, which lies above the step's, and the task's id is one of those that were given

abbrev pub IdFits : World → Option ℤ → Type 0
IdFits w None = Unit {0}
IdFits w (Some i) = IsTrue (int_le (pos 1) i && int_le i (pos ((w.next - 1) * 64)))

pub record SceneAgrees (k : ℕ) (s : Scene) : Type 0 where
  pub world : Agrees s.world
  pub number : 1 ≤ s.number
  pub before : suc s.number ≤ s.world.next
  pub moment : IsTrue (is_moment s.moment)
  pub ids : s.ids_used ≤ 64
  pub own : IdFits s.world s.task
  pub next : s.world.next ≡ k

-- a task may wait until a moment, until it is resumed, or for a line of an open link on which no other one reads
abbrev pub MayWait : World → Waiting → Type 0
MayWait w (forked m) = ⊥
MayWait w (timed m v) = IsTrue (is_moment m)
MayWait w idle = Unit {0}
MayWait w (reading_on c) = IsTrue (is_some (at w.links c)) × (reader_of w c ≡ None)

-- ---- built-in functions

abbrev pub NativeKeeps : ℕ → NativeEffect → Type 0
NativeKeeps k (answers s a) = SceneAgrees k s
NativeKeeps k (complains s f) = SceneAgrees k s
NativeKeeps k (begins s n d body args) = SceneAgrees k s × IsTrue (native_fits n.name n.stage n.arguments)
NativeKeeps k (waits s why) = SceneAgrees k s × MayWait s.world why
NativeKeeps k (dies s) = SceneAgrees k s
NativeKeeps k (becomes s who) = SceneAgrees k s

-- whatever its name and its arguments are
abbrev pub NativesKeep : Type 0
NativesKeep = (k : ℕ) (s : Scene) (c : Caller) (name : Text) (args : List Datum) → SceneAgrees k s → NativeKeeps k (native s c name args)

-- and one that waited for a verb
abbrev pub StagesKeep : Type 0
StagesKeep = (k : ℕ) (s : Scene) (c : Caller) (n : Native) (v : Datum) → SceneAgrees k s → NativeKeeps k (native_turn s c n v)

-- ---- turns and segments of a task that is under way

-- it stands in its programs, and what waits for its innermost verb are verbs and built-ins as in a task that waits
abbrev pub IsUnderWay : Pending → Type 0
IsUnderWay p = Stands p × EntriesHold (frame_entry p.frame ∷ p.outer)

-- a task that waits is one that the queue may take
abbrev pub StopKeeps : ℕ → Scene → Stop → Type 0
StopKeeps k s (waiting why es) = SceneAgrees k s × (MayWait s.world why × (FramesStand es × EntriesHold es))
StopKeeps k s why = SceneAgrees k s

abbrev pub TurnedKeeps : ℕ → Turned → Type 0
TurnedKeeps k (goes_on s p) = SceneAgrees k s × IsUnderWay p
TurnedKeeps k (halts s why) = StopKeeps k s why

abbrev pub TurnsKeep : Type 0
TurnsKeep = (k : ℕ) (s : Scene) (p : Pending) → SceneAgrees k s → IsUnderWay p → TurnedKeeps k (turn s p)

abbrev pub SegmentsKeep : Type 0
SegmentsKeep = (k t : ℕ) (s : Scene) (p : Pending) → SceneAgrees k s → IsUnderWay p → StopKeeps k (segment t s p).scene (segment t s p).stop

-- ---- steps and lists of steps

-- of any kind: a connection that opens or ends, a line, a task that is due
abbrev pub StepsKeep : Type 0
StepsKeep = (w : World) (s : Step) → Agrees w → IsTrue (in_range s) → Agrees (play1 w s).0

abbrev pub ListsKeep : Type 0
ListsKeep = (w : World) (ss : List Step) → Agrees w → IsTrue (list_all in_range ss) → Agrees (play w ss).0

-- the next number is then the one after the step's, or what it was if that is greater
abbrev pub NextFollows : Type 0
NextFollows = (w : World) (s : Step) → Agrees w → IsTrue (in_range s) → (play1 w s).0.next ≡ max (suc s.number) w.next

-- so a well-formed world is well formed afterwards, if the frames of the tasks that then wait hold what belongs there
abbrev pub StaysWellFormed : Type 0
StaysWellFormed =
    (w : World) (ss : List Step) → IsWellFormed w → IsTrue (list_all in_range ss) → OfEachTask (play w ss).0 frames_hold → IsWellFormed (play w ss).0

-- ---- longer lists

-- a longer list goes on where a shorter one ends
abbrev pub PlayGoesOn : Type 0
PlayGoesOn =
    (w : World) (ss ts : List Step)
    → play w (ss ++ ts) ≡ ((play (play w ss).0 ts).0, (play w ss).1 ++ (play (play w ss).0 ts).1)
