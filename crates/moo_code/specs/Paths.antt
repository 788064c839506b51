-- The place of each instruction in the tree: part numbers, counted from 1, the outermost first; and the place of a call by its path.
use Rattle.std.specs.Prelude.{◌≡◌, ℕ, zero, suc, pred, ◌+◌, ◌<◌, List, [], ◌∷◌, ◌++◌, Option, Some, None, true}
use Rattle.spec_program.specs.Tree.{Program}
use Rattle.spec_program.specs.Construct.{Construct, of_program, Piece}
use Rattle.spec_program.specs.Place.{part_at, tree_of, Linked, is_call}
use Rattle.spec_world.specs.World.{Frame}
use Rattle.moo_code.specs.Layout.{Around, outermost, within, Layout, stop, own, inner, gap, front, reception_size, size, entry, layout}
use Rattle.moo_code.specs.Stands.{part_count, Counted, body, link_of, front_of, start, kept_of, Waits}

abbrev pub below : ℕ → Option (List ℕ) → Option (List ℕ)
below n None = None
below n (Some path) = Some (n ∷ path)

-- an offset behind so many
abbrev pub past : ℕ → ℕ → Option ℕ
past zero o = Some o
past (suc k) zero = None
past (suc k) (suc o) = past k o

abbrev pub in_or_past : Option ℕ → Option (List ℕ) → (ℕ → Option (List ℕ)) → Option (List ℕ)
in_or_past None inside after = inside
in_or_past (Some o) inside after = after o

-- what the instruction at an offset belongs to, where the next part has this number: an empty list to the part that begins with it, what
-- receives a value to the construct that gets it
abbrev pub find : ℕ → Layout → ℕ → Option (List ℕ)
find n stop o = None
find n (own op ns l) zero = Some []
find n (own op ns l) (suc o) = find n l o
find n (inner k a l) o =
    in_or_past (past (front k) o) (Some (n ∷ []))
    (λ i. in_or_past (past (size a) i) (below n (find 1 a i)) (λ j. in_or_past (past (reception_size k.reception) j) (Some []) (λ m. find (suc n) l m)))
find n (gap l) o = find (suc n) l o

abbrev pub path_of : List Piece → List ℕ
path_of [] = []
path_of (p ∷ ps) = path_of ps ++ p.part ∷ []

abbrev pub onto_path : List ℕ → Option (List ℕ) → Option (List ℕ)
onto_path path None = None
onto_path path (Some more) = Some (path ++ more)

-- an offset in a construct's code is found at the pieces' path
abbrev pub IsFound : Type 0
IsFound =
    (p : Program) (c : Construct) (ps : List Piece) (o : ℕ) → Linked c ps (of_program p) → o < size (body ps c)
    → find 1 (layout outermost (of_program p)) (start ps + o) ≡ onto_path (path_of ps) (find 1 (body ps c) o)

-- ---- and back: how far from a construct's beginning the last instruction of what stands at a path is

abbrev pub in_tree : Option Construct → (Construct → ℕ) → ℕ
in_tree None go = 0
in_tree (Some d) go = go d

abbrev pub last_at : Around → Construct → List ℕ → ℕ
last_at x c [] = pred (size (layout x c))
last_at x c (n ∷ path) = entry n (layout x c) + front_of (link_of n (layout x c)) + in_tree (tree_of (part_at c n)) (λ d. last_at (within x c n (part_count (part_at c n))) d path)

abbrev pub IsPlaced : Type 0
IsPlaced =
    (p : Program) (c : Construct) (ps : List Piece) → Linked c ps (of_program p) → last_at outermost (of_program p) (path_of ps) ≡ start ps + pred (size (body ps c))

-- a verb whose pieces lead to a call waits there
abbrev pub CallsWait : Type 0
CallsWait =
    (f : Frame) (c : Construct) → is_call c ≡ true → Linked c f.pieces (of_program f.program) → Counted f.pieces
    → Waits f (kept_of f (last_at outermost (of_program f.program) (path_of f.pieces)))
