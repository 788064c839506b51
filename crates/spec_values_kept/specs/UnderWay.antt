-- What a task of a world of values holds that is under way, and what its steps, built-in functions and turns lead to: values again.
use Rattle.std.specs.Prelude.{◌≡◌, ◌≤◌, ◌<◌, ℕ, ◌+◌, ◌^◌, ℤ, length, List, [], Some, None, IsTrue, nat_le}
use Rattle.spec_value.specs.Datum.{Datum, list, of_list, Text}
use Rattle.spec_value.specs.Answer.{is_allowed}
use Rattle.spec_program.specs.Tree.{Program}
use Rattle.spec_program.specs.Construct.{Construct, of_expr, of_target, of_default, of_statement, of_program, Piece}
use Rattle.spec_program.specs.Place.{tree_of, part_at, Linked}
use Rattle.spec_program.specs.Trees.{is_tree, expr_height, target_height, statement_height, program_height}
use Rattle.spec_program.specs.Spelling.{canonical_lines}
use Rattle.spec_world.specs.World.{World, Object, Native, object_at}
use Rattle.spec_world.specs.WellFormed.{loops, frames}
use Rattle.spec_world.specs.Agreeing.{ObjectsAgree}
use Rattle.spec_moo.specs.Scene.{Scene}
use Rattle.spec_moo.specs.Leaving.{Failure, failure_value}
use Rattle.spec_moo.specs.NativeEffect.{Caller, NativeEffect, answers, complains, begins, waits, dies, becomes}
use Rattle.spec_moo.specs.Natives.{native, native_turn}
use Rattle.spec_moo.specs.Pending.{Focus, begin, hand, aim, operate, next, leave, Pending, Stop, done, raised, out_of_ticks, waiting, killed, Turned, goes_on, halts}
use Rattle.spec_moo.specs.Effect.{Effect, hands, errs, takes, ends, leaves, stays, sets, calls, natively}
use Rattle.spec_moo.specs.Standing.{Stands}
use Rattle.spec_moo.specs.Turn.{completed, turn}
use Rattle.spec_values_kept.specs.Values.{InRange, IsPrinted, IsValue, IsKept, AreKept, Each, AreValues, IfThere, AnswerHolds}
use Rattle.spec_values_kept.specs.WorldValues.{IsNumber, ProgramHolds, CallHolds, LeavingHolds, HeldBy, FrameHolds, NativeHolds, EntriesHold, WaitingHolds, WorldHolds}

-- ---- programs

abbrev pub construct_height : Construct → ℕ
construct_height (of_expr a) = expr_height a
construct_height (of_target t) = target_height t
construct_height (of_default x a) = expr_height a
construct_height (of_statement t) = statement_height t
construct_height (of_program p) = program_height p

-- as many loops around, as a path from there is lower
abbrev pub LoopsLower : Type 0
LoopsLower = (c root : Construct) (ps : List Piece) → Linked c ps root → loops ps + construct_height c ≤ construct_height root

-- the lines of a program are texts of printed characters
abbrev pub CodePrinted : Type 0
CodePrinted = (p : Program) → IsTrue (is_tree p) → Each IsPrinted (canonical_lines p)

-- ---- scenes: the numbers of the step and of its task are in their ranges, too

abbrev pub NumbersHold : Scene → Type 0
NumbersHold s = IsTrue (nat_le s.number 33554431) × (IsNumber s.moment × (IsNumber s.ticks_left × IfThere InRange s.task))

abbrev pub SceneHolds : Scene → Type 0
SceneHolds s = WorldHolds s.world × NumbersHold s

-- ---- a task under way

-- an error where it is raised
abbrev pub FailureHolds : Failure → Type 0
FailureHolds f = IsKept (failure_value f) × (f.traceback ≡ [])

abbrev pub FocusHolds : ℕ → Focus → Type 0
FocusHolds around (begin c) = Unit {0}
FocusHolds around (hand v) = IsKept v
FocusHolds around (aim vs) = AreKept vs
FocusHolds around (operate c n vs) = HeldBy around c n vs
FocusHolds around next = Unit {0}
FocusHolds around (leave l) = LeavingHolds around l

abbrev pub Holds : Pending → Type 0
Holds p = InRange p.player × (FocusHolds (frames p.outer) p.focus × (FrameHolds (frames p.outer) p.frame × EntriesHold p.outer))

abbrev pub StopHolds : Stop → Type 0
StopHolds (done v) = IsKept v
StopHolds (raised f) = Unit {0}
StopHolds (out_of_ticks ts) = Unit {0}
StopHolds (waiting why es) = WaitingHolds why × EntriesHold es
StopHolds killed = Unit {0}

abbrev pub TurnedHolds : Turned → Type 0
TurnedHolds (goes_on s p) = SceneHolds s × Holds p
TurnedHolds (halts s why) = SceneHolds s × StopHolds why

-- ---- what a built-in function does, and a step of a construct

abbrev pub CallerHolds : Caller → Type 0
CallerHolds c = InRange c.player × (CallHolds c.call × Each CallHolds c.callers)

abbrev pub NativeGives : NativeEffect → Type 0
NativeGives (answers s a) = SceneHolds s × AnswerHolds a
NativeGives (complains s f) = SceneHolds s × FailureHolds f
NativeGives (begins s n d body args) = SceneHolds s × (NativeHolds n × (CallHolds d × (ProgramHolds body × IsKept (list args))))
NativeGives (waits s why) = SceneHolds s × WaitingHolds why
NativeGives (dies s) = SceneHolds s
NativeGives (becomes s who) = SceneHolds s × InRange who

-- where no part of that number can be begun, it is done
abbrev pub TakesHold : ℕ → Construct → ℕ → List Datum → Type 0
TakesHold around c n vs = HeldBy around c n vs × (tree_of (part_at c n) ≡ None → FocusHolds around (completed c vs))

-- of a construct, with so many verbs waiting outside
abbrev pub EffectHolds : ℕ → Construct → Effect → Type 0
EffectHolds around c (hands s v) = SceneHolds s × IsKept v
EffectHolds around c (errs s f) = SceneHolds s × FailureHolds f
EffectHolds around c (takes n vs) = TakesHold around c n vs
EffectHolds around c (ends s) = SceneHolds s
EffectHolds around c (leaves l) = LeavingHolds around l
EffectHolds around c stays = Unit {0}
EffectHolds around c (sets x v e) = (IsPrinted x × IsKept v) × EffectHolds around c e
EffectHolds around c (calls d body args) = CallHolds d × (ProgramHolds body × IsKept (list args))
EffectHolds around c (natively e) = NativeGives e

-- ---- laws

-- of built-in functions, whatever their names, for arguments that are values and weigh no more than a value may, and of their later stages
abbrev pub NativesHold : Type 0
NativesHold =
    (s : Scene) (c : Caller) (name : Text) (args : List Datum)
    → SceneHolds s → CallerHolds c → AreValues args → IsTrue (is_allowed (list (of_list args))) → NativeGives (native s c name args)

abbrev pub StagesHold : Type 0
StagesHold = (s : Scene) (c : Caller) (n : Native) (v : Datum) → SceneHolds s → CallerHolds c → NativeHolds n → IsValue v → NativeGives (native_turn s c n v)

-- no object contains as many as there are numbers
abbrev pub ContentsFew : World → Type 0
ContentsFew w = (o : ℤ) (x : Object) → object_at w o ≡ Some x → length x.contents < 2 ^ 31

-- as where objects agree
abbrev pub FewContained : Type 0
FewContained = (w : World) → ObjectsAgree w → ContentsFew w

-- of each turn of a task that stands in its programs, and for whose innermost verb at most 49 others wait
abbrev pub TurnsHold : Type 0
TurnsHold = (s : Scene) (p : Pending) → SceneHolds s → ContentsFew s.world → frames p.outer ≤ 49 → Stands p → Holds p → TurnedHolds (turn s p)
