-- A verb that waits at a call of its program is found there: by its place, by its path, and with its operands.
use Rattle.std.proofs.Common.{◌≡◌, ◌∙◌, ap, sym, refl, subst, ℕ, zero, suc, pred, ◌+◌, ◌<◌, Bool, true, List, [], ◌∷◌, ◌++◌, length, Option, Some, None, Result, Ok, Err, IfOk, IsTrue, length-append, arith}
use Rattle.std.specs.Prelude.{option_map}
use Rattle.spec_program.specs.Tree.{Program}
use Rattle.spec_program.specs.Construct.{Construct, of_expr, of_program, Piece}
use Rattle.spec_program.specs.Place.{part_at, tree_of, is_call, Linked}
use Rattle.spec_world.specs.World.{Frame, Entry, frame_entry, native_entry}
use Rattle.spec_world.specs.WellFormed.{StandsAtCall, FramesStand}
use Rattle.moo_code.specs.Layout.{outermost, layout, size}
use Rattle.moo_code.specs.Machine.{Kept, Outer, verb, native}
use Rattle.moo_code.specs.Paths.{path_of, last_at}
use Rattle.moo_code.specs.Rebuilding.{call_path}
use Rattle.moo_code.specs.Stands.{body, start, operands, kept_of, Waits, AllWait}
use Rattle.moo_code.proofs.Paths.{is_placed}
use Rattle.moo_code.proofs.Rebuilding.{frames_rebuilt}
use Rattle.moo_places.specs.Reaching.{last_from, last_at_path}
use Rattle.moo_places.proofs.Reached.{path_is_reached}
use Rattle.moo_task.specs.Keeping.{WaitsAtCall}
use Rattle.tree_parts.specs.Arriving.{arrives, StandsThere}
use Rattle.tree_parts.specs.Arrived.{is_call_there}
use Rattle.tree_parts.specs.Places.{place_at}
use Rattle.tree_parts.specs.Standing.{AllStand}
use Rattle.tree_parts.proofs.Leading.{leads}

-- ---- its place

at_path : (p : Program) (path : List ℕ) → 0 < length path → place_at p path ≡ last_at_path path 0 (layout outermost (of_program p))
at_path p [] some = absurd (omega (arith, some))
at_path p (n ∷ path) some = refl

some_path : (p : Program) (c : Construct) (ps : List Piece) → IsTrue (is_call c) → Linked c ps (of_program p) → 0 < length (path_of ps)
some_path p c [] call h = absurd (cc (subst (λ z. IsTrue (is_call z)) h call))
some_path p c (q ∷ ps) call h = let both = length-append (path_of ps) (q.part ∷ []) in omega (arith, both)

last_there : (b n m : ℕ) → suc m ≡ b + n → b + pred n ≡ m → last_from b n ≡ Some m
last_there b zero m e h = absurd (omega (arith, e, h))
last_there b (suc n) m e h = ap Some h

same_tree : (p : Program) (c d : Construct) (ps : List Piece) → Linked c ps (of_program p) → Linked d ps (of_program p) → c ≡ d
same_tree p c d [] h g = h ∙ sym g
same_tree p c d (q ∷ ps) h g = let both : Some c ≡ Some d = sym h.0 ∙ g.0 in cc

pub placed_call : (f : Frame) (k : Kept) → Waits f k → StandsAtCall f → place_at f.program (path_of f.pieces) ≡ Some k.place
placed_call f k w st =
    let p : Program = f.program in
    let ps : List Piece = f.pieces in
    let c : Construct = of_expr w.at in
    let program : k.program ≡ p = ap (λ (z : Kept). z.program) w.is in
    let place : k.place ≡ w.place = ap (λ (z : Kept). z.place) w.is in
    let last : start ps + pred (size (body ps c)) ≡ k.place =
    sym (is_placed p c ps w.linked) ∙ ap (λ q. last_at outermost (of_program q) (path_of ps)) (sym program) ∙ (frames_rebuilt f k w st).place in
    let end : suc k.place ≡ start ps + size (body ps c) = ap suc place ∙ w.end in
    at_path p (path_of ps) (some_path p st.0 ps st.1 st.2)
    ∙ path_is_reached p c ps w.linked
    ∙ last_there (start ps) (size (body ps c)) k.place end last

pub place_there : (k : Kept) (h : StandsThere k) → place_at k.program (path_of (h.frame).pieces) ≡ Some k.place
place_there k h = ap (λ (z : Kept). place_at z.program (path_of (h.frame).pieces)) (h.waits).is ∙ placed_call h.frame k h.waits h.stands

-- ---- its path

pub path_there : (k : Kept) (h : StandsThere k) → call_path k ≡ Some (path_of (h.frame).pieces)
path_there k h = (frames_rebuilt h.frame k h.waits h.stands).path

-- ---- its call

pub call_there : (k : Kept) (h : StandsThere k) → IsTrue (is_call_there (arrives (of_program k.program) (path_of (h.frame).pieces) (length k.operands)))
call_there k h =
    let f : Frame = h.frame in
    let c : Construct = (h.stands).0 in
    let there : arrives (of_program f.program) (path_of f.pieces) (length (operands f.pieces)) ≡ Some c = leads (of_program f.program) c f.pieces (h.stands).2 (h.waits).counted in
    subst (λ (z : Kept). IsTrue (is_call_there (arrives (of_program z.program) (path_of f.pieces) (length z.operands)))) (sym (h.waits).is)
    (subst (λ o. IsTrue (is_call_there o)) (sym there) (h.stands).1)

-- ---- all of them

pub all_stand : (es : List Entry) (ks : List Outer) → AllWait es ks → FramesStand es → AllStand ks
all_stand [] [] w st = tt
all_stand [] (k ∷ ks) w st = absurd w
all_stand (frame_entry f ∷ es) [] w st = absurd w
all_stand (frame_entry f ∷ es) (native m ∷ ks) w st = absurd w
all_stand (native_entry n ∷ es) [] w st = absurd w
all_stand (native_entry n ∷ es) (verb k ∷ ks) w st = absurd w
all_stand (frame_entry f ∷ es) (verb k ∷ ks) w st = (record { frame = f; waits = w.0; stands = st.0 }, all_stand es ks w.1 st.1)
all_stand (native_entry n ∷ es) (native m ∷ ks) w st = (tt, all_stand es ks w.1 st)

-- ---- as it is sought

pub found_call : (k : Kept) (h : StandsThere k) (path : List ℕ) (tree : Program) (count : ℕ) (so : Bool) → path ≡ path_of (h.frame).pieces → tree ≡ k.program → count ≡ length k.operands
    → so ≡ is_call_there (arrives (of_program tree) path count) → IsTrue so
found_call k h path tree count so along whole all is =
    subst IsTrue (sym (is ∙ (λ i. is_call_there (arrives (of_program (whole i)) (along i) (all i))))) (call_there k h)

pub found_place : (k : Kept) (h : StandsThere k) (path : List ℕ) (place : ℕ) → place_at k.program path ≡ Some place → path ≡ path_of (h.frame).pieces → place ≡ k.place
found_place k h path place at along = let both : Some place ≡ Some k.place = sym at ∙ ap (place_at k.program) along ∙ place_there k h in cc

pub some_place : (k : Kept) (h : StandsThere k) (path : List ℕ) (found : Option ℕ) → found ≡ place_at k.program path → path ≡ path_of (h.frame).pieces → found ≡ Some k.place
some_place k h path found is along = is ∙ ap (place_at k.program) along ∙ place_there k h

pub none_along : {A : Type 0} (f : A → List ℕ) (k : Kept) (h : StandsThere k) (found : Option A) → option_map f found ≡ call_path k → found ≡ None → ⊥
none_along f k h found is none = absurd (cc (sym (ap (option_map f) none) ∙ is ∙ path_there k h))

pub some_along : {A : Type 0} (f : A → List ℕ) (k : Kept) (h : StandsThere k) (found : Option A) (a : A) (slice : List ℕ) → option_map f found ≡ call_path k → found ≡ Some a → slice ≡ f a
    → slice ≡ path_of (h.frame).pieces
some_along f k h found a slice is some same =
    let both : Some (f a) ≡ Some (path_of (h.frame).pieces) = sym (ap (option_map f) some) ∙ is ∙ path_there k h in
    let one : f a ≡ path_of (h.frame).pieces = cc in
    same ∙ one

pub ok_map : {A E : Type 0} (r : Result A E) (P Q : A → Type 0) → IfOk r P → ((x : A) → P x → Q x) → IfOk r Q
ok_map (Ok x) P Q h f = f x h
ok_map (Err e) P Q h f = tt

-- ---- a verb that waits with others

pub first_stands : (k : Kept) (ks : List Outer) → WaitsAtCall k ks → StandsThere k
first_stands k ks h = record { frame = h.frame; waits = (h.waiting).0; stands = (h.standing).0 }

pub others_stand : (k : Kept) (ks : List Outer) → WaitsAtCall k ks → AllStand ks
others_stand k ks h = all_stand h.entries ks (h.waiting).1 (h.standing).1
