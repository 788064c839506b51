-- Worlds of values after segments, steps and lists of steps.
use Rattle.std.specs.Prelude.{ℕ, zero, suc, ◌+◌, length, nat_le, Bool, true, false, ◌&&◌, List, [], ◌∷◌, Option, Some, None, IsTrue}
use Rattle.std.specs.List.{list_all}
use Rattle.spec_value.specs.Datum.{Datum, list, of_list, Text}
use Rattle.spec_value.specs.Answer.{weight_limit, is_allowed}
use Rattle.spec_program.specs.Tree.{listing, call, verb_call, caught, guarded, finished}
use Rattle.spec_program.specs.Construct.{Construct, of_expr, of_statement}
use Rattle.spec_world.specs.World.{World, PrepositionPart, no_preposition, any_preposition, preposition_set, Verb, Object, Entry, frame_entry, native_entry, Waiting, forked, timed, idle, reading_on, Task, Programming, Link}
use Rattle.spec_world.specs.Checkpoint.{values_held}
use Rattle.spec_world.specs.WellFormed.{frames, IsWellFormed}
use Rattle.spec_world.specs.Agreeing.{Agrees}
use Rattle.spec_world.specs.Step.{Step, in_range}
use Rattle.spec_fixture.specs.Fixture.{fixture}
use Rattle.spec_moo.specs.Scene.{Scene}
use Rattle.spec_moo.specs.Leaving.{returned, failed, broken, continued, failure_value, BodyLeft, ended, left_by, read_left}
use Rattle.spec_moo.specs.Effects.Handlers.{code_count}
use Rattle.spec_moo.specs.Pending.{Pending}
use Rattle.spec_moo.specs.Segment.{segment}
use Rattle.spec_moo.specs.Worlds.{SceneAgrees, IsUnderWay}
use Rattle.spec_moo.specs.Steps.{play1, play}
use Rattle.spec_moo.specs.Natives.Properties.{as_texts}
use Rattle.spec_checkpoint.specs.Holding.{is_number, world_holds}
use Rattle.spec_values_kept.specs.Values.{nests_within, is_flat, is_nearly_flat}
use Rattle.spec_values_kept.specs.Nodes.{program_nodes}
use Rattle.spec_values_kept.specs.WorldValues.{IsNumber, WorldHolds}
use Rattle.spec_values_kept.specs.UnderWay.{SceneHolds, Holds, StopHolds}

-- of a task that is under way, with any number of ticks that is one
abbrev pub SegmentsHold : Type 0
SegmentsHold =
    (k t : ℕ) (s : Scene) (p : Pending) → IsNumber t → SceneAgrees k s → IsUnderWay p → SceneHolds s → Holds p
    → SceneHolds (segment t s p).scene × StopHolds (segment t s p).stop

-- of any kind: a connection that opens or ends, a line, a task that is due
abbrev pub StepsHold : Type 0
StepsHold = (w : World) (s : Step) → Agrees w → WorldHolds w → IsTrue (in_range s) → WorldHolds (play1 w s).0

abbrev pub ListsHold : Type 0
ListsHold = (w : World) (ss : List Step) → Agrees w → WorldHolds w → IsTrue (list_all in_range ss) → WorldHolds (play w ss).0

-- ---- the same of whole worlds, by tests

-- nodes of programs and sets of prepositions
abbrev pub is_preposition : PrepositionPart → Bool
is_preposition no_preposition = true
is_preposition any_preposition = true
is_preposition (preposition_set n) = nat_le n 14

abbrev pub verb_within : Verb → Bool
verb_within v = is_number (program_nodes v.program) && is_preposition v.preposition

-- values that are kept
abbrev pub content_within : Option Datum → Bool
content_within None = true
content_within (Some v) = is_flat v

abbrev pub object_within : Object → Bool
object_within x = list_all (λ e. content_within (e.1).content) x.slots && list_all verb_within x.verbs

-- what a construct holds
abbrev pub left_within : ℕ → Option BodyLeft → Bool
left_within around None = true
left_within around (Some ended) = true
left_within around (Some (left_by (returned v))) = is_flat v
left_within around (Some (left_by (failed f))) = is_flat (failure_value f) && is_number (length f.traceback + around)
left_within around (Some (left_by (broken k))) = true
left_within around (Some (left_by (continued k))) = true

abbrev pub tells_within : ℕ → Datum → Bool
tells_within around d = is_nearly_flat d && left_within around (read_left d)

abbrev pub one_within : List Datum → Bool
one_within [] = true
one_within (v ∷ []) = is_nearly_flat v
one_within (v ∷ u ∷ vs) = false

abbrev pub codes_within : List Datum → Bool
codes_within [] = true
codes_within (v ∷ vs) = is_nearly_flat v && list_all is_flat vs

abbrev pub at_code_within : ℕ → ℕ → List Datum → Bool
at_code_within zero m vs = list_all is_flat vs
at_code_within (suc k) zero vs = one_within vs
at_code_within (suc k) (suc m) vs = at_code_within k m vs

abbrev pub caught_within : ℕ → ℕ → List Datum → Bool
caught_within k zero vs = list_all is_flat vs
caught_within k (suc zero) vs = codes_within vs
caught_within k (suc (suc m)) vs = at_code_within k m vs

abbrev pub held_within : ℕ → Construct → ℕ → List Datum → Bool
held_within around (of_expr (listing es)) n vs = list_all is_nearly_flat vs
held_within around (of_expr (call f es)) n vs = list_all is_nearly_flat vs
held_within around (of_expr (verb_call o v es)) n vs = list_all is_nearly_flat vs
held_within around (of_expr (caught e codes d)) n vs = caught_within (code_count codes) n vs
held_within around (of_statement (guarded p arms)) n vs = list_all is_nearly_flat vs
held_within around (of_statement (finished p q)) n vs = list_all (tells_within around) vs
held_within around c n vs = list_all is_flat vs

abbrev pub entry_within : ℕ → Entry → Bool
entry_within around (frame_entry f) =
    is_number (program_nodes f.program)
    && (list_all (λ e. is_flat e.1) f.variables && list_all (λ q. held_within around q.construct q.part q.held) f.pieces)
entry_within around (native_entry n) = true

-- with so many verbs around each
abbrev pub entries_within : List Entry → Bool
entries_within [] = true
entries_within (e ∷ es) = entry_within (frames es) e && entries_within es

abbrev pub waiting_within : Waiting → Bool
waiting_within (forked due) = true
waiting_within (timed due v) = is_flat v
waiting_within idle = true
waiting_within (reading_on c) = true

abbrev pub task_within : Task → Bool
task_within t = waiting_within t.waiting && entries_within t.entries

-- lines that a link keeps
abbrev pub lines_within : Option (List Text) → Bool
lines_within None = true
lines_within (Some ts) = is_allowed (list (of_list (as_texts ts)))

abbrev pub programming_within : Option Programming → Bool
programming_within None = true
programming_within (Some g) = lines_within g.lines

abbrev pub link_within : Link → Bool
link_within k = programming_within k.programming

abbrev pub is_within : World → Bool
is_within w =
    list_all (λ e. object_within e.1) w.objects && (list_all (λ e. task_within e.1) w.tasks && list_all (λ e. link_within e.1) w.links)

-- a world of values within these bounds holds values, part by part; and where it is well formed, it is one
abbrev pub HoldsValues : Type 0
HoldsValues = (w : World) → IsTrue (world_holds w) → IsTrue (is_within w) → WorldHolds w

abbrev pub IsOfValues : Type 0
IsOfValues = (w : World) → IsWellFormed w → WorldHolds w → IsTrue (world_holds w) × IsTrue (is_within w)

-- so it stays one
abbrev pub StaysOfValues : Type 0
StaysOfValues =
    (w : World) (ss : List Step)
    → IsWellFormed w → IsTrue (world_holds w) → IsTrue (is_within w) → IsTrue (list_all in_range ss)
    → IsTrue (world_holds (play w ss).0) × IsTrue (is_within (play w ss).0)

-- ---- how deep a world's text nests

abbrev pub content_nests : ℕ → Option Datum → Bool
content_nests n None = true
content_nests n (Some v) = nests_within n v

abbrev pub entry_nests : ℕ → Entry → Bool
entry_nests n (frame_entry f) = list_all (λ e. nests_within n e.1) f.variables && list_all (λ v. nests_within n v) (values_held f.pieces)
entry_nests n (native_entry m) = nests_within n (list (of_list m.arguments))

abbrev pub waiting_nests : ℕ → Waiting → Bool
waiting_nests n (forked due) = true
waiting_nests n (timed due v) = nests_within n v
waiting_nests n idle = true
waiting_nests n (reading_on c) = true

abbrev pub task_nests : ℕ → Task → Bool
task_nests n t = waiting_nests n t.waiting && list_all (λ e. entry_nests n e) t.entries

-- no literal in it nests deeper than so many lists
abbrev pub world_nests : ℕ → World → Bool
world_nests n w =
    list_all (λ e. list_all (λ s. content_nests n (s.1).content) (e.1).slots) w.objects && list_all (λ e. task_nests n e.1) w.tasks

-- within these bounds it is one list more than a value that is kept
abbrev pub NestsWithin : Type 0
NestsWithin = (w : World) → IsWellFormed w → IsTrue (is_within w) → IsTrue (world_nests (suc weight_limit) w)

-- and so it is after each list of steps
abbrev pub StaysNesting : Type 0
StaysNesting =
    (w : World) (ss : List Step)
    → IsWellFormed w → IsTrue (world_holds w) → IsTrue (is_within w) → IsTrue (list_all in_range ss)
    → IsTrue (is_within (play w ss).0) × IsTrue (world_nests (suc weight_limit) (play w ss).0)

-- the world that tests start with is within these bounds
abbrev pub FixtureWithin : Type 0
FixtureWithin = IsTrue (is_within fixture)
