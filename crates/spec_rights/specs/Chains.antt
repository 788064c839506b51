-- What built-ins, turns, segments, steps and lists of steps may do to a world: changes one after another, each permitted to a programmer whose verb or task then runs.
use Rattle.std.specs.Prelude.{◌≡◌, ◌⊎◌, ℕ, ℤ, Bool, true, if◌then◌else◌, List, [], ◌∷◌, Some, IsTrue}
use Rattle.std.specs.List.{list_all}
use Rattle.spec_value.specs.Datum.{Datum, Text}
use Rattle.spec_value.specs.Table.{at}
use Rattle.spec_program.specs.Tree.{Program}
use Rattle.spec_world.specs.World.{World, Object, Verb, Native, Entry, frame_entry, native_entry, Task, Link, object_at}
use Rattle.spec_world.specs.Agreeing.{Agrees}
use Rattle.spec_world.specs.Members.{verb_changed}
use Rattle.spec_world.specs.Permissions.{in_place, is_wizard, change_object, program_verb}
use Rattle.spec_world.specs.Step.{Step, in_range}
use Rattle.spec_moo.specs.Scene.{Scene}
use Rattle.spec_moo.specs.NativeEffect.{Caller, NativeEffect, answers, complains, begins, waits, dies, becomes}
use Rattle.spec_moo.specs.Natives.{native, native_turn}
use Rattle.spec_moo.specs.Natives.Tasks.{innermost, programmer_of}
use Rattle.spec_moo.specs.Pending.{Pending, Turned, goes_on, halts}
use Rattle.spec_moo.specs.Turn.{turn}
use Rattle.spec_moo.specs.Sizes.{begins_stage}
use Rattle.spec_moo.specs.Segment.{segment, Course, runs, stops, advance, after}
use Rattle.spec_moo.specs.Worlds.{SceneAgrees, IsUnderWay}
use Rattle.spec_moo.specs.Steps.{play1, play}
use Rattle.spec_rights.specs.Permitted.{Allows, Concerns, Permitted, QueueKept}

-- ---- one built-in function

abbrev pub scene_of : NativeEffect → Scene
scene_of (answers s a) = s
scene_of (complains s f) = s
scene_of (begins s n d body args) = s
scene_of (waits s why) = s
scene_of (dies s) = s
scene_of (becomes s who) = s

-- whatever its name and its arguments are: what the programmer of the verb that calls it may do
abbrev pub NativesPermit : Type 0
NativesPermit =
    (k : ℕ) (s : Scene) (c : Caller) (name : Text) (args : List Datum) → SceneAgrees k s
    → Permitted (λ o. ⊥) s.world c.call.programmer (scene_of (native s c name args)).world

-- one that waited for a verb may besides move or recycle the object that it began with
abbrev pub StagesPermit : Type 0
StagesPermit =
    (k : ℕ) (s : Scene) (c : Caller) (n : Native) (v : Datum) → SceneAgrees k s
    → Permitted (Concerns n) s.world c.call.programmer (scene_of (native_turn s c n v)).world

-- of waiting tasks and of links too
abbrev pub NativesLeaveTasks : Type 0
NativesLeaveTasks =
    (k : ℕ) (s : Scene) (c : Caller) (name : Text) (args : List Datum) → SceneAgrees k s
    → QueueKept (λ o. ⊥) s.world c.call.programmer (scene_of (native s c name args)).world

abbrev pub StagesLeaveTasks : Type 0
StagesLeaveTasks =
    (k : ℕ) (s : Scene) (c : Caller) (n : Native) (v : Datum) → SceneAgrees k s
    → QueueKept (Concerns n) s.world c.call.programmer (scene_of (native_turn s c n v)).world

-- ---- one turn

-- a turn acts as the programmer of the innermost verb; where it brings a built-in the value that this waited for, as that of the verb which called it
abbrev pub acting : Pending → ℤ
acting p = if begins_stage p then programmer_of (innermost p.outer) else p.frame.call.programmer

-- and then the built-in may move or recycle the object that it began with
abbrev pub Begun : Bool → List Entry → ℤ → Type 0
Begun true (native_entry n ∷ es) o = Concerns n o
Begun b es o = ⊥

abbrev pub world_after : Turned → World
world_after (goes_on s p) = s.world
world_after (halts s why) = s.world

-- each turn of any task: what the table allows to that programmer
abbrev pub TurnsAct : Type 0
TurnsAct =
    (k : ℕ) (s : Scene) (p : Pending) → SceneAgrees k s → Permitted (Begun (begins_stage p) p.outer) s.world (acting p) (world_after (turn s p))

-- ---- a segment, turn by turn

abbrev pub world_then : Course → World
world_then (runs t s p) = s.world
world_then (stops e) = e.scene.world

-- so does each turn that a task comes to
abbrev pub SegmentsAct : Type 0
SegmentsAct =
    (k n t left : ℕ) (s u : Scene) (p q : Pending) → SceneAgrees k s → IsUnderWay p → after n (runs t s p) ≡ runs left u q
    → Permitted (Begun (begins_stage q) q.outer) u.world (acting q) (world_then (advance left u q))

-- ---- one step

-- what the server does by itself to links, to the queue and to the next number
abbrev pub SameObjects : World → World → Type 0
SameObjects w u = (u.objects ≡ w.objects) × (u.greatest ≡ w.greatest) × (u.ending ≡ w.ending)

-- a player who has a link
abbrev pub IsTyping : World → ℤ → Type 0
IsTyping w who =
    (c : ℤ) × (k : Link) × (at w.links c ≡ Some k) × (k.person ≡ who) × (x : Object) × (object_at w who ≡ Some x) × (x.header.is_player ≡ true)

-- the turns of a segment of one task
abbrev pub RunsATask : World → World → Type 0
RunsATask w u =
    (t : Scene) × (p : Pending)
    × (SceneAgrees t.world.next t × (IsUnderWay p × (SameObjects w t.world × SameObjects (segment t.ticks_left t p).scene.world u)))

-- a program that a player types, who is allowed to
abbrev pub TypesAProgram : World → World → Type 0
TypesAProgram w u =
    (who o : ℤ) × (n : ℕ) × (body : Program)
    × (IsTyping w who × (Allows w who (program_verb o n) × SameObjects (verb_changed w o n (λ x. record x { program = body })) u))

-- nothing else changes an object
abbrev pub StepsAct : Type 0
StepsAct =
    (w : World) (s : Step) → Agrees w → IsTrue (in_range s)
    → SameObjects w (play1 w s).0 ⊎ (RunsATask w (play1 w s).0 ⊎ TypesAProgram w (play1 w s).0)

-- ---- who runs

-- to run with someone's permissions; to move or recycle an object, of a built-in that began when that was allowed
pub data Right : Type 0 where
  to_run_as to_take : ℤ → Right

abbrev pub In : List Right → Right → Type 0
In [] g = ⊥
In (h ∷ gs) g = (g ≡ h) ⊎ In gs g

-- held at the beginning, or given since
abbrev pub Holds : (Right → Bool) → List Right → Right → Type 0
Holds first gs g = IsTrue (first g) ⊎ In gs g

abbrev pub EntryHolds : (Right → Type 0) → Entry → Type 0
EntryHolds rights (frame_entry f) = rights (to_run_as f.call.programmer)
EntryHolds rights (native_entry n) = (o : ℤ) → Concerns n o → rights (to_take o)

abbrev pub EntriesHold : (Right → Type 0) → List Entry → Type 0
EntriesHold rights [] = Unit {0}
EntriesHold rights (e ∷ es) = EntryHolds rights e × EntriesHold rights es

abbrev pub TasksHold : (Right → Type 0) → List (ℤ × Task) → Type 0
TasksHold rights [] = Unit {0}
TasksHold rights (t ∷ ts) = EntriesHold rights (t.1).entries × TasksHold rights ts

-- all that may run has these rights: the owners of verbs, the programmers of waiting tasks, and the built-ins that wait in them
pub record AllHold (rights : Right → Type 0) (w : World) : Type 0 where
  pub verbs : (o : ℤ) (x : Object) (n : ℕ) (v : Verb) → object_at w o ≡ Some x → in_place x.verbs n ≡ Some v → rights (to_run_as v.owner)
  pub tasks : TasksHold rights w.tasks

-- ---- changes one after another

-- from a world on: a programmer with a right to run changes what the table allows; a player who has a link types the program of a verb, by the table too;
-- a wizard's verb may go on as another programmer, or give a verb to another owner; and a built-in begins that may move or recycle an object
pub data Chain (first : Right → Bool) (w : World) : List Right → World → Type 0 where
  starts : Chain first w [] w
  serves : (gs : List Right) (u v : World) → Chain first w gs u → SameObjects u v → Chain first w gs v
  changes : (gs : List Right) (u v : World) (who : ℤ) → Chain first w gs u → Holds first gs (to_run_as who)
      → Permitted (λ o. Holds first gs (to_take o)) u who v → Chain first w gs v
  types : (gs : List Right) (u : World) (who o : ℤ) (n : ℕ) (body : Program) → Chain first w gs u → IsTyping u who → Allows u who (program_verb o n)
      → Chain first w gs (verb_changed u o n (λ x. record x { program = body }))
  names : (gs : List Right) (u : World) (who o : ℤ) → Chain first w gs u → Holds first gs (to_run_as who) → is_wizard u who ≡ true
      → Chain first w (to_run_as o ∷ gs) u
  takes : (gs : List Right) (u : World) (who o : ℤ) → Chain first w gs u → Holds first gs (to_run_as who) → Allows u who (change_object o)
      → Chain first w (to_take o ∷ gs) u

-- ---- turns and segments

-- the innermost verb has a right to run, and what waits for it holds its rights
abbrev pub PendingHolds : (Right → Type 0) → Pending → Type 0
PendingHolds rights p = rights (to_run_as p.frame.call.programmer) × EntriesHold rights p.outer

abbrev pub TurnsPermit : Type 0
TurnsPermit =
    (first : Right → Bool) (k : ℕ) (s : Scene) (p : Pending) → SceneAgrees k s → AllHold (Holds first []) s.world → PendingHolds (Holds first []) p
    → (gs : List Right) × Chain first s.world gs (world_after (turn s p))

-- with any number of ticks
abbrev pub SegmentsPermit : Type 0
SegmentsPermit =
    (first : Right → Bool) (k t : ℕ) (s : Scene) (p : Pending) → SceneAgrees k s → IsUnderWay p → AllHold (Holds first []) s.world → PendingHolds (Holds first []) p
    → (gs : List Right) × Chain first s.world gs (segment t s p).scene.world

-- ---- steps and lists of steps

abbrev pub StepsPermit : Type 0
StepsPermit =
    (first : Right → Bool) (w : World) (s : Step) → Agrees w → IsTrue (in_range s) → AllHold (Holds first []) w
    → (gs : List Right) × (Chain first w gs (play1 w s).0 × AllHold (Holds first gs) (play1 w s).0)

abbrev pub ListsPermit : Type 0
ListsPermit =
    (first : Right → Bool) (w : World) (ss : List Step) → Agrees w → IsTrue (list_all in_range ss) → AllHold (Holds first []) w
    → (gs : List Right) × (Chain first w gs (play w ss).0 × AllHold (Holds first gs) (play w ss).0)
