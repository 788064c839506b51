-- Worlds of values, told part by part: each number is in its range, each text has printed characters, and each program is a tree of the grammar.
use Rattle.std.specs.Prelude.{ℕ, zero, suc, ◌+◌, length, ℤ, ◌&&◌, List, [], ◌∷◌, Option, Some, None, IsTrue, nat_le}
use Rattle.spec_value.specs.Datum.{Text, Datum, integer, list, of_list}
use Rattle.spec_value.specs.Answer.{is_allowed}
use Rattle.spec_program.specs.Tree.{listing, call, verb_call, caught, for_each, guarded, finished, Program}
use Rattle.spec_program.specs.Construct.{Construct, of_expr, of_statement, Piece}
use Rattle.spec_program.specs.Trees.{is_tree}
use Rattle.spec_world.specs.World.{World, Slot, PrepositionPart, no_preposition, any_preposition, preposition_set, Verb, Header, Object, Call, Start, Frame, Native, Entry, frame_entry, native_entry, Waiting, forked, timed, idle, reading_on, Task, Programming, Link}
use Rattle.spec_world.specs.WellFormed.{frames}
use Rattle.spec_world.specs.Checkpoint.{start_values}
use Rattle.spec_moo.specs.Leaving.{Leaving, returned, failed, broken, continued, failure_value, BodyLeft, ended, left_by, read_left}
use Rattle.spec_moo.specs.Effects.Handlers.{code_count}
use Rattle.spec_moo.specs.Natives.Properties.{as_texts}
use Rattle.spec_checkpoint.specs.Holding.{is_number}
use Rattle.spec_values_kept.specs.Nodes.{program_nodes}
use Rattle.spec_values_kept.specs.Values.{InRange, IsPrinted, Each, AreValues, IsKept, AreKept, IsHeld, IfThere}

abbrev pub IsNumber : ℕ → Type 0
IsNumber n = IsTrue (is_number n)

-- a tree of the grammar, of fewer nodes than there are numbers
abbrev pub ProgramHolds : Program → Type 0
ProgramHolds p = IsTrue (is_tree p) × IsNumber (program_nodes p)

-- ---- objects

abbrev pub SlotHolds : Slot → Type 0
SlotHolds s = InRange s.owner × IfThere IsKept s.content

-- the number of the last set is 14
abbrev pub PrepositionHolds : PrepositionPart → Type 0
PrepositionHolds no_preposition = Unit {0}
PrepositionHolds any_preposition = Unit {0}
PrepositionHolds (preposition_set n) = IsTrue (nat_le n 14)

abbrev pub VerbHolds : Verb → Type 0
VerbHolds v = IsPrinted v.names × (InRange v.owner × (PrepositionHolds v.preposition × ProgramHolds v.program))

abbrev pub HeaderHolds : Header → Type 0
HeaderHolds h = IsPrinted h.name × (InRange h.owner × (InRange h.parent × InRange h.location))

abbrev pub ObjectHolds : Object → Type 0
ObjectHolds x =
    HeaderHolds x.header
    × (Each InRange x.children × (Each InRange x.contents × (Each IsPrinted x.defines × (Each (λ e. SlotHolds e.1) x.slots × Each VerbHolds x.verbs))))

-- ---- tasks

abbrev pub CallHolds : Call → Type 0
CallHolds c = InRange c.this × (InRange c.caller × (InRange c.definer × (InRange c.programmer × IsPrinted c.verb)))

abbrev pub StartHolds : Start → Type 0
StartHolds s = AreValues (start_values s)

abbrev pub VariableHolds : Text × Datum → Type 0
VariableHolds e = IsPrinted e.0 × IsKept e.1

-- a loop over a list counts its turns, by numbers that are no greater than the list is long
abbrev pub Counts : Datum → Type 0
Counts (integer k) = Unit {0}
Counts v = IsKept v

-- how a body was left whose finally part is under way, with so many verbs waiting outside: an error is there as a handler would have it, and
-- lists fewer verbs than there are numbers, those outside with it
abbrev pub LeavingHolds : ℕ → Leaving → Type 0
LeavingHolds around (returned v) = IsKept v
LeavingHolds around (failed f) = IsKept (failure_value f) × IsNumber (length f.traceback + around)
LeavingHolds around (broken k) = IsNumber k
LeavingHolds around (continued k) = IsNumber k

abbrev pub LeftHolds : ℕ → Option BodyLeft → Type 0
LeftHolds around None = Unit {0}
LeftHolds around (Some ended) = Unit {0}
LeftHolds around (Some (left_by l)) = LeavingHolds around l

abbrev pub TellsLeaving : ℕ → Datum → Type 0
TellsLeaving around d = IsHeld d × LeftHolds around (read_left d)

-- a list of codes so far
abbrev pub OneHeld : List Datum → Type 0
OneHeld [] = Unit {0}
OneHeld (v ∷ []) = IsHeld v
OneHeld (v ∷ u ∷ vs) = ⊥

-- the codes, and then values
abbrev pub CodesFirst : List Datum → Type 0
CodesFirst [] = Unit {0}
CodesFirst (v ∷ vs) = IsHeld v × AreKept vs

-- with so many codes, at the one before which so many stand; behind them stands the default
abbrev pub AtCode : ℕ → ℕ → List Datum → Type 0
AtCode zero m vs = AreKept vs
AtCode (suc k) zero vs = OneHeld vs
AtCode (suc k) (suc m) vs = AtCode k m vs

-- a caught expression computes its codes first, from its second part on
abbrev pub CaughtHolds : ℕ → ℕ → List Datum → Type 0
CaughtHolds k zero vs = AreKept vs
CaughtHolds k (suc zero) vs = CodesFirst vs
CaughtHolds k (suc (suc m)) vs = AtCode k m vs

-- what a construct holds when so many of its parts are done, and while the last of them is under way, with so many verbs waiting outside
abbrev pub HeldBy : ℕ → Construct → ℕ → List Datum → Type 0
HeldBy around (of_expr (listing es)) n vs = Each IsHeld vs
HeldBy around (of_expr (call f es)) n vs = Each IsHeld vs
HeldBy around (of_expr (verb_call o v es)) n vs = Each IsHeld vs
HeldBy around (of_expr (caught e codes d)) n vs = CaughtHolds (code_count codes) n vs
HeldBy around (of_statement (for_each x e p)) n vs = Each Counts vs
HeldBy around (of_statement (guarded p arms)) n vs = Each IsHeld vs
HeldBy around (of_statement (finished p q)) n vs = Each (TellsLeaving around) vs
HeldBy around c n vs = AreKept vs

-- the parts of a construct are counted from 1
abbrev pub PieceHolds : ℕ → Piece → Type 0
PieceHolds around q = IsTrue (nat_le 1 q.part && is_number q.part) × HeldBy around q.construct q.part q.held

abbrev pub FrameHolds : ℕ → Frame → Type 0
FrameHolds around f =
    CallHolds f.call × (StartHolds f.start × (ProgramHolds f.program × (Each VariableHolds f.variables × Each (PieceHolds around) f.pieces)))

abbrev pub NativeHolds : Native → Type 0
NativeHolds n = IsNumber n.stage × AreValues n.arguments

abbrev pub EntryHolds : ℕ → Entry → Type 0
EntryHolds around (frame_entry f) = FrameHolds around f
EntryHolds around (native_entry n) = NativeHolds n

abbrev pub EntriesHold : List Entry → Type 0
EntriesHold [] = Unit {0}
EntriesHold (e ∷ es) = EntryHolds (frames es) e × EntriesHold es

abbrev pub WaitingHolds : Waiting → Type 0
WaitingHolds (forked due) = IsNumber due
WaitingHolds (timed due v) = IsNumber due × IsKept v
WaitingHolds idle = Unit {0}
WaitingHolds (reading_on c) = InRange c

abbrev pub TaskHolds : Task → Type 0
TaskHolds t = InRange t.player × (WaitingHolds t.waiting × EntriesHold t.entries)

-- ---- links

-- lines that are kept for a verb's program are no more than a value may weigh
abbrev pub LinesHold : List Text → Type 0
LinesHold ts = IsTrue (is_allowed (list (of_list (as_texts ts))))

abbrev pub ProgrammingHolds : Programming → Type 0
ProgrammingHolds g = InRange g.object × (IsPrinted g.verb × IfThere (λ ts. Each IsPrinted ts × LinesHold ts) g.lines)

abbrev pub LinkHolds : Link → Type 0
LinkHolds k = InRange k.person × IfThere ProgrammingHolds k.programming

-- ---- the whole

abbrev pub NumberedHolds : {X : Type 0} → (X → Type 0) → ℤ × X → Type 0
NumberedHolds P e = InRange e.0 × P e.1

abbrev pub WorldHolds : World → Type 0
WorldHolds w =
    Each (NumberedHolds ObjectHolds) w.objects
    × (Each (NumberedHolds TaskHolds) w.tasks × (Each (NumberedHolds LinkHolds) w.links × (IsNumber w.next × InRange w.greatest)))
