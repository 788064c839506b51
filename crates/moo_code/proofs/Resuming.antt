-- A machine that stands for waiting entries is there, and there is one alone.
use Rattle.std.proofs.Common.{◌≡◌, ◌&&◌, suc, List, [], ◌∷◌, length, IsTrue, Option, Some, None, refl, sym, ap, ◌∙◌}
use Rattle.std.specs.Prelude.{pos}
use Rattle.std.specs.List.{list_all}
use Rattle.spec_value.specs.Datum.{Datum, integer, object, list}
use Rattle.spec_value.specs.Table.{is_named}
use Rattle.spec_value.proofs.Entries.{first_holds, second_holds}
use Rattle.spec_program.specs.Construct.{of_program, Piece}
use Rattle.spec_program.specs.Place.{Kind, Part, Holds, holds, walks_list, walks_range, why_left, part_at, held_count}
use Rattle.spec_world.specs.World.{Frame, frame_entry, native_entry}
use Rattle.spec_world.specs.WellFormed.{kinds_fit, held_fits, loops, part_fits, pieces_fit, is_variable, frame_fits, entry_fits, StandsAtCall}
use Rattle.moo_code.specs.Layout.{outermost}
use Rattle.moo_code.specs.Machine.{Kept, verb, native}
use Rattle.moo_code.specs.Stands.{part_count, Counted, kept_of, Waits}
use Rattle.moo_code.specs.Paths.{path_of, last_at}
use Rattle.moo_code.specs.Resuming.{waiting_kept, OutersWait, OutersOnly, FittingCounted}
use Rattle.moo_code.proofs.Paths.{calls_wait}
use Rattle.moo_code.proofs.Rebuilding.{frames_rebuilt}

pub outers_wait : OutersWait
outers_wait [] st k = tt
outers_wait (frame_entry f ∷ es) st k = (calls_wait f (st.0).0 (st.0).1 (st.0).2 k.0, outers_wait es st.1 k.1)
outers_wait (native_entry n ∷ es) st k = (refl, outers_wait es st k)

-- ---- one alone

kept_only : (f : Frame) (k : Kept) → Waits f k → StandsAtCall f → k ≡ waiting_kept f
kept_only f k w h =
    let program : k.program ≡ f.program = ap (λ (z : Kept). z.program) w.is in
    let place : k.place ≡ w.place = ap (λ (z : Kept). z.place) w.is in
    let there : last_at outermost (of_program f.program) (path_of f.pieces) ≡ w.place =
    ap (λ p. last_at outermost (of_program p) (path_of f.pieces)) (sym program) ∙ (frames_rebuilt f k w h).place ∙ place in
    w.is ∙ ap (kept_of f) (sym there)

pub outers_only : OutersOnly
outers_only [] [] h st = refl
outers_only [] (k ∷ ks) h st = absurd h
outers_only (frame_entry f ∷ es) [] h st = absurd h
outers_only (frame_entry f ∷ es) (native m ∷ ks) h st = absurd h
outers_only (native_entry n ∷ es) [] h st = absurd h
outers_only (native_entry n ∷ es) (verb k ∷ ks) h st = absurd h
outers_only (frame_entry f ∷ es) (verb k ∷ ks) h st =
    ap (λ z. verb z ∷ ks) (kept_only f k h.0 st.0) ∙ ap (λ zs. verb (waiting_kept f) ∷ zs) (outers_only es ks h.1 st.1)
outers_only (native_entry n ∷ es) (native m ∷ ks) h st =
    ap (λ z. native z ∷ ks) (sym h.0) ∙ ap (λ zs. native n ∷ zs) (outers_only es ks h.1 st)

-- ---- well-formed tasks

kinds_count : (ks : List Kind) (vs : List Datum) → IsTrue (kinds_fit ks vs) → length vs ≡ length ks
kinds_count [] [] h = refl
kinds_count [] (v ∷ vs) h = cc
kinds_count (k ∷ ks) [] h = cc
kinds_count (k ∷ ks) (v ∷ vs) h = ap suc (kinds_count ks vs (second_holds _ _ h))

held_fit_count : (q : Piece) (ps : List Piece) (o : Option Part) → IsTrue (part_fits (loops ps) q.held o) → length q.held ≡ part_count o
held_fit_count q ps None h = cc
held_fit_count q ps (Some x) h = go x.held q.held h
  where
    go : (hs : Holds) (vs : List Datum) → IsTrue (held_fits (loops ps) hs vs) → length vs ≡ held_count hs
    go (holds kinds) vs h = kinds_count kinds vs h
    go walks_list (list vs ∷ integer (pos k) ∷ []) h = refl
    go walks_list vs h = cc
    go walks_range (integer a ∷ integer b ∷ []) h = refl
    go walks_range (object a ∷ object b ∷ []) h = refl
    go walks_range vs h = cc
    go why_left (list vs ∷ []) h = refl
    go why_left vs h = cc

pieces_counted : (ps : List Piece) → IsTrue (pieces_fit ps) → Counted ps
pieces_counted [] h = tt
pieces_counted (q ∷ ps) h = (held_fit_count q ps (part_at q.construct q.part) (first_holds _ _ h), pieces_counted ps (second_holds _ _ h))

pub fitting_counted : FittingCounted
fitting_counted [] h = tt
fitting_counted (frame_entry f ∷ es) h =
    let fits : IsTrue (frame_fits f) = first_holds (frame_fits f) (list_all entry_fits es) h in (
      pieces_counted f.pieces (second_holds (is_named f.variables && list_all (λ e. is_variable e.0) f.variables) (pieces_fit f.pieces) fits),
      fitting_counted es (second_holds (frame_fits f) (list_all entry_fits es) h),
    )
fitting_counted (native_entry n ∷ es) h = fitting_counted es (second_holds (entry_fits (native_entry n)) (list_all entry_fits es) h)
