-- The machine of a task that waits, from what the definition keeps of it.
use Rattle.std.specs.Prelude.{◌≡◌, List, [], ◌∷◌, map, IsTrue}
use Rattle.std.specs.List.{list_all}
use Rattle.spec_program.specs.Construct.{of_program}
use Rattle.spec_world.specs.World.{Frame, Entry, frame_entry, native_entry}
use Rattle.spec_world.specs.WellFormed.{entry_fits, FramesStand}
use Rattle.moo_code.specs.Layout.{outermost}
use Rattle.moo_code.specs.Machine.{Kept, Outer, verb, native}
use Rattle.moo_code.specs.Stands.{Counted, kept_of, AllWait}
use Rattle.moo_code.specs.Paths.{path_of, last_at}

-- a verb waits at the place to which its pieces' path leads, with what they hold
abbrev pub waiting_kept : Frame → Kept
waiting_kept f = kept_of f (last_at outermost (of_program f.program) (path_of f.pieces))

abbrev pub outer_of : Entry → Outer
outer_of (frame_entry f) = verb (waiting_kept f)
outer_of (native_entry n) = native n

abbrev pub outers_of : List Entry → List Outer
outers_of es = map outer_of es

abbrev pub AllCounted : List Entry → Type 0
AllCounted [] = Unit {0}
AllCounted (frame_entry f ∷ es) = Counted f.pieces × AllCounted es
AllCounted (native_entry n ∷ es) = AllCounted es

-- it stands for what waits
abbrev pub OutersWait : Type 0
OutersWait = (es : List Entry) → FramesStand es → AllCounted es → AllWait es (outers_of es)

-- no other machine does
abbrev pub OutersOnly : Type 0
OutersOnly = (es : List Entry) (ks : List Outer) → AllWait es ks → FramesStand es → ks ≡ outers_of es

-- pieces of a well-formed task hold as many values as they have to
abbrev pub FittingCounted : Type 0
FittingCounted = (es : List Entry) → IsTrue (list_all entry_fits es) → AllCounted es
