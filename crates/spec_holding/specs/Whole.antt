-- What waiting tasks hold after steps and lists of steps: a well-formed world whose programs texts spell is one again.
use Rattle.std.specs.Prelude.{ℕ, ℤ, List, [], Bool, true, IsTrue}
use Rattle.std.specs.List.{list_all}
use Rattle.spec_program.specs.Trees.{program_fits}
use Rattle.spec_world.specs.World.{World, Object, Entry, frame_entry, native_entry, Task}
use Rattle.spec_world.specs.Agreeing.{Agrees}
use Rattle.spec_world.specs.WellFormed.{OfEachObject, OfEachTask, IsWellFormed}
use Rattle.spec_moo.specs.Scene.{Scene}
use Rattle.spec_moo.specs.Pending.{Pending}
use Rattle.spec_moo.specs.Segment.{segment}
use Rattle.spec_moo.specs.Standing.{Stands}
use Rattle.spec_world.specs.Step.{Step}
use Rattle.spec_moo.specs.Steps.{play1, play}
use Rattle.spec_world.specs.Step.{in_range}
use Rattle.spec_holding.specs.UnderWay.{are_programmed, WorldHolds, SceneHolds, Holds, StopHolds}

-- of a task that is under way, with any number of ticks
abbrev pub SegmentsHold : Type 0
SegmentsHold =
    (t : ℕ) (s : Scene) (p : Pending) → SceneHolds s → Stands p → Holds p → SceneHolds (segment t s p).scene × StopHolds (segment t s p).stop

-- of any kind: a connection that opens or ends, a line, a task that is due
abbrev pub StepsHold : Type 0
StepsHold = (w : World) (s : Step) → Agrees w → WorldHolds w → WorldHolds (play1 w s).0

abbrev pub ListsHold : Type 0
ListsHold = (w : World) (ss : List Step) → Agrees w → WorldHolds w → IsTrue (list_all in_range ss) → WorldHolds (play w ss).0

-- ---- whole worlds: texts spell the programs of verbs, and of verbs that wait

abbrev pub programs_spelled : World → ℤ → Object → Bool
programs_spelled w o x = are_programmed x

abbrev pub entry_spelled : Entry → Bool
entry_spelled (frame_entry f) = program_fits [] f.program
entry_spelled (native_entry n) = true

abbrev pub frames_spelled : World → ℤ → Task → Bool
frames_spelled w i t = list_all entry_spelled t.entries

abbrev pub TextsSpell : World → Type 0
TextsSpell w = OfEachObject w programs_spelled × OfEachTask w frames_spelled

-- a step, and a list of them, keeps that, and a world well formed: nothing is asked of the frames of the tasks that then wait
abbrev pub StaysWholeOnce : Type 0
StaysWholeOnce =
    (w : World) (s : Step) → IsWellFormed w → TextsSpell w → IsTrue (in_range s) → IsWellFormed (play1 w s).0 × TextsSpell (play1 w s).0

abbrev pub StaysWhole : Type 0
StaysWhole =
    (w : World) (ss : List Step) → IsWellFormed w → TextsSpell w → IsTrue (list_all in_range ss)
    → IsWellFormed (play w ss).0 × TextsSpell (play w ss).0
