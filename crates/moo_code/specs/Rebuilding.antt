-- The pieces of a verb that waits, from its place and its operands alone.
use Rattle.std.specs.Prelude.{◌≡◌, ℕ, List, [], ◌∷◌, Option, Some, None}
use Rattle.spec_value.specs.Datum.{Datum}
use Rattle.spec_program.specs.Tree.{Program}
use Rattle.spec_program.specs.Construct.{Construct, of_program, Piece}
use Rattle.spec_program.specs.Place.{Linked, pieces_at}
use Rattle.spec_world.specs.World.{Frame, Entry, frame_entry, native_entry}
use Rattle.spec_world.specs.WellFormed.{StandsAtCall, FramesStand}
use Rattle.moo_code.specs.Layout.{outermost, layout}
use Rattle.moo_code.specs.Performing.{onto}
use Rattle.moo_code.specs.Machine.{Kept, Outer, verb, native}
use Rattle.moo_code.specs.Stands.{Counted, operands, Waits, AllWait}
use Rattle.moo_code.specs.Paths.{find, path_of, last_at}

-- a stack, the deepest first
abbrev pub from_deepest : List Datum → List Datum
from_deepest st = onto st []

-- down the path of pieces, with the values on the stack, stand these pieces
abbrev pub PiecesComeBack : Type 0
PiecesComeBack =
    (p : Program) (c : Construct) (ps : List Piece) → Linked c ps (of_program p) → Counted ps
    → pieces_at (of_program p) (path_of ps) (from_deepest (operands ps)) [] ≡ Some (c, ps)

-- ---- a verb that waits

abbrev pub down : Program → List Datum → Option (List ℕ) → Option (Construct × List Piece)
down p st None = None
down p st (Some path) = pieces_at (of_program p) path (from_deepest st) []

abbrev pub call_path : Kept → Option (List ℕ)
call_path k = find 1 (layout outermost (of_program k.program)) k.place

-- what stands at the call, and the pieces from there
abbrev pub rebuilt : Kept → Option (Construct × List Piece)
rebuilt k = down k.program k.operands (call_path k)

pub record IsRebuilt (f : Frame) (k : Kept) (c : Construct) : Type 0 where
  pub path : call_path k ≡ Some (path_of f.pieces)
  pub pieces : rebuilt k ≡ Some (c, f.pieces)
  pub place : last_at outermost (of_program k.program) (path_of f.pieces) ≡ k.place

abbrev pub FramesRebuilt : Type 0
FramesRebuilt = (f : Frame) (k : Kept) → Waits f k → (h : StandsAtCall f) → IsRebuilt f k h.0

-- ---- all that waits

abbrev pub with_pieces : Kept → Option (Construct × List Piece) → Option Entry
with_pieces k None = None
with_pieces k (Some found) = Some (frame_entry (record { call = k.call; start = k.start; program = k.program; variables = k.variables; pieces = found.1 }))

abbrev pub entry_of : Outer → Option Entry
entry_of (verb k) = with_pieces k (rebuilt k)
entry_of (native n) = Some (native_entry n)

abbrev pub before_all : Option Entry → Option (List Entry) → Option (List Entry)
before_all (Some e) (Some es) = Some (e ∷ es)
before_all a b = None

-- the entries of a machine
abbrev pub entries_of : List Outer → Option (List Entry)
entries_of [] = Some []
entries_of (k ∷ ks) = before_all (entry_of k) (entries_of ks)

-- are those that the definition has
abbrev pub EntriesRebuilt : Type 0
EntriesRebuilt = (es : List Entry) (ks : List Outer) → AllWait es ks → FramesStand es → entries_of ks ≡ Some es
