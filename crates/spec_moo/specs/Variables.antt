-- The variables of verbs that are under way or wait: one of each name, in the order of their names.
use Rattle.std.specs.Prelude.{◌≡◌, ℕ, ℤ, List, Bool, true, Option, Some, None, IsTrue}
use Rattle.std.specs.List.{list_all}
use Rattle.spec_value.specs.Datum.{Datum, Data, Text}
use Rattle.spec_value.specs.Table.{is_named}
use Rattle.spec_program.specs.Tree.{Program}
use Rattle.spec_program.specs.Trees.{is_name}
use Rattle.spec_world.specs.WellFormed.{is_variable}
use Rattle.spec_world.specs.World.{Call, Start, Entry, frame_entry, native_entry}
use Rattle.spec_moo.specs.Scene.{Scene}
use Rattle.spec_moo.specs.Calling.{starting}
use Rattle.spec_moo.specs.Pending.{Focus, Pending, Stop, waiting, Turned, goes_on, halts, going_on}
use Rattle.spec_moo.specs.Turn.{turn}
use Rattle.spec_moo.specs.Segment.{segment}
use Rattle.spec_moo.specs.Effects.Forks.{with_named, forked_task}

abbrev pub is_in_order : Entry → Bool
is_in_order (frame_entry f) = is_named f.variables
is_in_order (native_entry n) = true

-- of each frame among these
abbrev pub AreInOrder : List Entry → Type 0
AreInOrder es = IsTrue (list_all is_in_order es)

-- of the innermost verb, and of each that waits for it
abbrev pub IsInOrder : Pending → Type 0
IsInOrder p = IsTrue (is_named p.frame.variables) × AreInOrder p.outer

abbrev pub StopsInOrder : Stop → Type 0
StopsInOrder (waiting why es) = AreInOrder es
StopsInOrder why = Unit {0}

abbrev pub TurnedInOrder : Turned → Type 0
TurnedInOrder (goes_on s p) = IsInOrder p
TurnedInOrder (halts s why) = StopsInOrder why

-- a verb that is called begins so
abbrev pub StartsInOrder : Type 0
StartsInOrder = (player : ℤ) (c : Call) (word : Text) (s : Start) (args : Data) → IsTrue (is_named (starting player c word s args))

-- under names that programs can write
abbrev pub StartsNamed : Type 0
StartsNamed = (player : ℤ) (c : Call) (word : Text) (s : Start) (args : Data) → IsTrue (list_all (λ e. is_variable e.0) (starting player c word s args))

-- which are the names of a program's tree
abbrev pub NamesAgree : Type 0
NamesAgree = (t : Text) → is_name t ≡ is_variable t

-- each turn keeps it, and so does a segment with any number of ticks
abbrev pub TurnsKeepOrder : Type 0
TurnsKeepOrder = (s : Scene) (p : Pending) → IsInOrder p → TurnedInOrder (turn s p)

abbrev pub SegmentsKeepOrder : Type 0
SegmentsKeepOrder = (t : ℕ) (s : Scene) (p : Pending) → IsInOrder p → StopsInOrder (segment t s p).stop

-- the task that a `fork` statement queues has it, whether a variable is given its id or not
abbrev pub ForksInOrder : Type 0
ForksInOrder =
    (p : Pending) (due : ℕ) (x : Option Text) (id : Datum) (body : Program)
    → IsInOrder p → AreInOrder (forked_task p due (with_named x id p.frame.variables) body).entries

-- and a task that waited and goes on
abbrev pub GoesOnInOrder : Option Pending → Type 0
GoesOnInOrder None = Unit {0}
GoesOnInOrder (Some p) = IsInOrder p

abbrev pub WaitsInOrder : Type 0
WaitsInOrder = (player : ℤ) (f : Focus) (es : List Entry) → AreInOrder es → GoesOnInOrder (going_on player f es)
