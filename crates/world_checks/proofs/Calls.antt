-- A verb that waits at a call holds what its path tells.
use Rattle.std.proofs.Common.{◌≡◌, ℕ, List, [], Some, None, IsTrue, refl, sym, ap, ◌∙◌, subst, ◌&&◌}
use Rattle.std.specs.List.{list_all}
use Rattle.spec_value.specs.Table.{is_named}
use Rattle.spec_value.proofs.Entries.{first_holds, second_holds, both_hold}
use Rattle.spec_program.specs.Construct.{of_program}
use Rattle.spec_world.specs.World.{Frame}
use Rattle.spec_world.specs.WellFormed.{StandsAtCall, is_variable, pieces_fit, frame_fits}
use Rattle.moo_code.specs.Machine.{Kept}
use Rattle.moo_code.specs.Stands.{Waits}
use Rattle.moo_code.specs.Paths.{path_of}
use Rattle.moo_code.specs.Rebuilding.{call_path, down, from_deepest}
use Rattle.moo_code.proofs.Rebuilding.{frames_rebuilt}
use Rattle.held_values.specs.Descent.{fits_down}
use Rattle.held_values.proofs.Pieces.{pieces_down, down_pieces}
use Rattle.world_checks.specs.Held.{OfCall}

pub call_holds : (k : Kept) (path : List ℕ) → call_path k ≡ Some path → IsTrue (fits_down 0 (of_program k.program) path (from_deepest k.operands)) → OfCall k
call_holds k path e h f w s =
    let back = frames_rebuilt f k w s in
    pieces_down path (of_program k.program) (from_deepest k.operands) [] (s.0, f.pieces) h refl (ap (down k.program k.operands) (sym e) ∙ back.pieces)

pub frame_holds : (k : Kept) → IsTrue (is_named k.variables) → IsTrue (list_all (λ e. is_variable e.0) k.variables) → (f : Frame) → k.variables ≡ f.variables → IsTrue (pieces_fit f.pieces)
    → IsTrue (frame_fits f)
frame_holds k sorted named f e held =
    both_hold (is_named f.variables && list_all (λ y. is_variable y.0) f.variables) (pieces_fit f.pieces)
    (both_hold (is_named f.variables) (list_all (λ y. is_variable y.0) f.variables) (subst (λ vars. IsTrue (is_named vars)) e sorted)
    (subst (λ vars. IsTrue (list_all (λ y. is_variable y.0) vars)) e named))
    held

-- for which a verb waits
pub waiting_holds : (k : Kept) → IsTrue (is_named k.variables) → IsTrue (list_all (λ e. is_variable e.0) k.variables) → OfCall k → (f : Frame) → Waits f k → StandsAtCall f → IsTrue (frame_fits f)
waiting_holds k sorted named held f w s = frame_holds k sorted named f (ap (λ (j : Kept). j.variables) w.is) (held f w s)

-- with no pieces
pub beginning_holds : (k : Kept) → IsTrue (is_named k.variables) → IsTrue (list_all (λ e. is_variable e.0) k.variables) → (f : Frame) → f.variables ≡ k.variables → f.pieces ≡ []
    → IsTrue (frame_fits f)
beginning_holds k sorted named f e none = frame_holds k sorted named f (sym e) (subst (λ ps. IsTrue (pieces_fit ps)) (sym none) refl)

-- ---- and the other way round

pub holds_call : (k : Kept) (path : List ℕ) → call_path k ≡ Some path → (f : Frame) → Waits f k → StandsAtCall f → IsTrue (pieces_fit f.pieces)
    → IsTrue (fits_down 0 (of_program k.program) path (from_deepest k.operands))
holds_call k path e f w s h =
    let back = frames_rebuilt f k w s in
    (down_pieces path (of_program k.program) (from_deepest k.operands) [] (s.0, f.pieces) (ap (down k.program k.operands) (sym e) ∙ back.pieces) h).0

-- there is a path to a call at which a verb waits
pub call_there : (k : Kept) → call_path k ≡ None → (f : Frame) → Waits f k → StandsAtCall f → ⊥
call_there k e f w s = let clash : None ≡ Some (path_of f.pieces) = sym e ∙ (frames_rebuilt f k w s).path in cc (clash)

pub frame_names : (f : Frame) → IsTrue (frame_fits f) → IsTrue (list_all (λ e. is_variable e.0) f.variables)
frame_names f h =
    second_holds (is_named f.variables) _ (first_holds (is_named f.variables && list_all (λ y. is_variable y.0) f.variables) _ h)

pub frame_pieces : (f : Frame) → IsTrue (frame_fits f) → IsTrue (pieces_fit f.pieces)
frame_pieces f h = second_holds (is_named f.variables && list_all (λ y. is_variable y.0) f.variables) _ h

-- of a verb that waits for a frame
pub kept_names : (k : Kept) (f : Frame) → Waits f k → IsTrue (frame_fits f) → IsTrue (list_all (λ e. is_variable e.0) k.variables)
kept_names k f w h = subst (λ (j : Kept). IsTrue (list_all (λ e. is_variable e.0) j.variables)) (sym w.is) (frame_names f h)

pub beginning_names : (k : Kept) (f : Frame) → f.variables ≡ k.variables → IsTrue (frame_fits f) → IsTrue (list_all (λ e. is_variable e.0) k.variables)
beginning_names k f e h = subst (λ vars. IsTrue (list_all (λ y. is_variable y.0) vars)) e (frame_names f h)
