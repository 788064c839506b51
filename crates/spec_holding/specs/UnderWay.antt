-- What a task holds that is under way or waits: values that fit the parts of its programs, variables of its programs, and programs that texts spell.
use Rattle.std.specs.Prelude.{◌≡◌, ℕ, zero, suc, ℤ, List, [], ◌∷◌, length, Bool, Some, IsTrue}
use Rattle.std.specs.List.{list_all}
use Rattle.spec_value.specs.Datum.{Datum, Text}
use Rattle.spec_value.specs.Table.{is_named}
use Rattle.spec_program.specs.Tree.{Target, for_each, for_range, repeat}
use Rattle.spec_program.specs.Construct.{Construct, of_target, of_statement, Piece}
use Rattle.spec_program.specs.Place.{why_left, nth, parts, part_at, tree_of, arity}
use Rattle.spec_program.specs.Trees.{program_fits}
use Rattle.spec_world.specs.World.{World, Object, Task, Frame, Native, Entry, frame_entry, native_entry}
use Rattle.spec_world.specs.WellFormed.{is_variable, held_fits, loops, pieces_fit}
use Rattle.spec_moo.specs.Scene.{Scene}
use Rattle.spec_moo.specs.Leaving.{Leaving, leaving_held}
use Rattle.spec_moo.specs.NativeEffect.{Caller, NativeEffect, answers, complains, begins, waits, dies, becomes}
use Rattle.spec_moo.specs.Natives.{native, native_turn}
use Rattle.spec_moo.specs.Pending.{Focus, aim, operate, leave, Pending, Stop, waiting, Turned, goes_on, halts}
use Rattle.spec_moo.specs.Effect.{Effect, hands, errs, takes, ends, leaves, stays, sets, calls, natively}
use Rattle.spec_moo.specs.Standing.{Stands}
use Rattle.spec_moo.specs.Turn.{turn}
use Rattle.spec_holding.specs.Points.{OperateFits, EndFits, PartFits}
use Rattle.spec_holding.specs.Fitting.{body_loops, is_code}

-- ---- verbs that are under way or wait

abbrev pub VariablesFit : Frame → Type 0
VariablesFit f = IsTrue (is_named f.variables) × IsTrue (list_all (λ e. is_variable e.0) f.variables)

abbrev pub FrameHolds : Frame → Type 0
FrameHolds f = VariablesFit f × (IsTrue (pieces_fit f.pieces) × IsTrue (program_fits [] f.program))

abbrev pub EntryHolds : Entry → Type 0
EntryHolds (frame_entry f) = FrameHolds f
EntryHolds (native_entry n) = Unit {0}

abbrev pub EntriesFit : List Entry → Type 0
EntriesFit [] = Unit {0}
EntriesFit (e ∷ es) = EntryHolds e × EntriesFit es

-- ---- worlds: each verb has a program that a text spells, and waiting tasks hold what fits

abbrev pub are_programmed : Object → Bool
are_programmed x = list_all (λ v. program_fits [] v.program) x.verbs

abbrev pub TasksHold : List (ℤ × Task) → Type 0
TasksHold [] = Unit {0}
TasksHold (e ∷ es) = EntriesFit (e.1).entries × TasksHold es

abbrev pub WorldHolds : World → Type 0
WorldHolds w = IsTrue (list_all (λ e. are_programmed e.1) w.objects) × TasksHold w.tasks

abbrev pub SceneHolds : Scene → Type 0
SceneHolds s = WorldHolds s.world

-- ---- what a task under way looks at

-- with so many loops around that can be left
abbrev pub LeavingFits : ℕ → Leaving → Type 0
LeavingFits around l = IsTrue (held_fits around why_left (leaving_held l ∷ []))

-- the values of the parts of the target that is under way
abbrev pub AimFits : List Datum → List Piece → Type 0
AimFits vs [] = Unit {0}
AimFits vs (q ∷ ps) = (t : Target) × (tree_of (part_at q.construct q.part) ≡ Some (of_target t)) × (length vs ≡ arity t)

abbrev pub FocusFits : List Piece → Focus → Type 0
FocusFits ps (aim vs) = AimFits vs ps
FocusFits ps (operate c n vs) = OperateFits (loops ps) c n vs
FocusFits ps (leave l) = LeavingFits (body_loops ps) l
FocusFits ps f = Unit {0}

abbrev pub Holds : Pending → Type 0
Holds p = FocusFits p.frame.pieces p.focus × (FrameHolds p.frame × EntriesFit p.outer)

abbrev pub StopHolds : Stop → Type 0
StopHolds (waiting why es) = EntriesFit es
StopHolds why = Unit {0}

abbrev pub TurnedHolds : Turned → Type 0
TurnedHolds (goes_on s p) = SceneHolds s × Holds p
TurnedHolds (halts s why) = SceneHolds s × StopHolds why

-- ---- what a step does

abbrev pub NativeHolds : NativeEffect → Type 0
NativeHolds (answers s a) = SceneHolds s
NativeHolds (complains s f) = SceneHolds s
NativeHolds (begins s n d body args) = SceneHolds s × IsTrue (program_fits [] body)
NativeHolds (waits s why) = SceneHolds s
NativeHolds (dies s) = SceneHolds s
NativeHolds (becomes s who) = SceneHolds s

-- a leaving ends a turn of a loop alone
abbrev pub IsLoop : Construct → Type 0
IsLoop (of_statement (for_each x a p)) = Unit {0}
IsLoop (of_statement (for_range x a b p)) = Unit {0}
IsLoop (of_statement (repeat x a p)) = Unit {0}
IsLoop c = ⊥

-- of a construct in so many loops
abbrev pub EffectFits : ℕ → Construct → Effect → Type 0
EffectFits around c (hands s v) = SceneHolds s
EffectFits around c (errs s f) = SceneHolds s
EffectFits around c (takes zero vs) = EndFits c vs
EffectFits around c (takes (suc n) vs) = PartFits around c vs (nth (parts c) n)
EffectFits around c (ends s) = SceneHolds s
EffectFits around c (leaves l) = IsTrue (is_code c) × LeavingFits around l
EffectFits around c stays = IsLoop c
EffectFits around c (sets x v e) = IsTrue (is_variable x) × EffectFits around c e
EffectFits around c (calls d body args) = IsTrue (program_fits [] body)
EffectFits around c (natively e) = NativeHolds e

-- ---- laws

-- of built-in functions, whatever their names and arguments, and of their later stages
abbrev pub NativesHold : Type 0
NativesHold = (s : Scene) (c : Caller) (name : Text) (args : List Datum) → SceneHolds s → NativeHolds (native s c name args)

abbrev pub StagesHold : Type 0
StagesHold = (s : Scene) (c : Caller) (n : Native) (v : Datum) → SceneHolds s → NativeHolds (native_turn s c n v)

-- each turn keeps what is held
abbrev pub TurnsHold : Type 0
TurnsHold = (s : Scene) (p : Pending) → SceneHolds s → Stands p → Holds p → TurnedHolds (turn s p)
