-- Where a verb stands that is read, and that it is kept as its lines tell it.
use Rattle.std.proofs.Common.{◌≡◌, ◌∙◌, refl, sym, ap, ℕ, Bool, true, false, List, [], ◌∷◌, Option, Some, None, IsTrue}
use Rattle.std.specs.Prelude.{option_map}
use Rattle.std.specs.declared.vec.Vec.{Vec}
use Rattle.std.specs.declared.alloc.Global.{Global}
use Rattle.spec_value.specs.Datum.{Datum}
use Rattle.spec_value.specs.Table.{Named}
use Rattle.spec_value.proofs.Entries.{both_hold}
use Rattle.spec_program.specs.Tree.{Program}
use Rattle.spec_program.specs.Construct.{of_program}
use Rattle.spec_world.specs.World.{Call, Start, Frame, frame_entry}
use Rattle.spec_world.specs.WellFormed.{StandsAtCall, pieces_fit}
use Rattle.spec_world.specs.Checkpoint.{values_held}
use Rattle.moo_code.specs.Machine.{Kept}
use Rattle.moo_code.specs.Paths.{path_of}
use Rattle.moo_code.specs.Rebuilding.{from_deepest}
use Rattle.moo_code.specs.Resuming.{waiting_kept}
use Rattle.moo_code.specs.Stands.{Counted, operands}
use Rattle.moo_code.proofs.Paths.{calls_wait}
use Rattle.moo_code.proofs.Resuming.{fitting_counted}
use Rattle.tree_parts.specs.Places.{place_at}
use Rattle.tree_parts.proofs.Arrived.{turned_back}
use Rattle.tree_parts.proofs.Found.{placed_call}
use Rattle.tree_parts.proofs.Told.{held_told}
use Rattle.held_values.specs.declared.fits.Wanted.{Wanted}
use Rattle.held_values.specs.Wanted.{wanted_by, wanted_down}
use Rattle.held_values.proofs.Wanting.{wanted_there}
use Rattle.task_lines.specs.declared.stand.Stand.{Stand}
use Rattle.task_lines.specs.Entries.{kept_for}
use Rattle.task_lines.specs.Standing.{IsStand}

-- ---- at its call

pub counted : (f : Frame) → IsTrue (pieces_fit f.pieces) → Counted f.pieces
counted f h = (fitting_counted (frame_entry (record f { variables = [] }) ∷ []) (both_hold (pieces_fit f.pieces) true h refl)).0

pub wanted_is : (f : Frame) (program : Program) (path : List ℕ) → StandsAtCall f → program ≡ f.program → path ≡ path_of f.pieces → wanted_down 0 [] (of_program program) path ≡ Some (wanted_by f.pieces)
wanted_is f program path st whole along = (λ i. wanted_down 0 [] (of_program (whole i)) (along i)) ∙ wanted_there (of_program f.program) st.0 f.pieces st.2 st.1

pub place_is : (f : Frame) (program : Program) (path : List ℕ) → StandsAtCall f → IsTrue (pieces_fit f.pieces) → program ≡ f.program → path ≡ path_of f.pieces
    → place_at program path ≡ Some (waiting_kept f).place
place_is f program path st fit whole along =
    (λ i. place_at (whole i) (along i)) ∙ placed_call f (waiting_kept f) (calls_wait f st.0 st.1 st.2 (counted f fit)) st

pub some_wanted : (w : Vec Wanted Global) (o : Option (Vec Wanted Global)) (ws : List Wanted) → o ≡ Some w → option_map (λ v. v.items) o ≡ Some ws → w.items ≡ ws
some_wanted w o ws is e = let both : Some w.items ≡ Some ws = sym (ap (option_map (λ v. v.items)) is) ∙ e in cc

pub none_wanted : (o : Option (Vec Wanted Global)) (ws : List Wanted) → o ≡ None → option_map (λ v. v.items) o ≡ Some ws → ⊥
none_wanted o ws is e = cc (sym (ap (option_map (λ v. v.items)) is) ∙ e)

-- ---- at its beginning

pub begins : (f : Frame) (s : Stand) → f.pieces ≡ [] → s.place ≡ 0 → s.wanted.items ≡ [] → IsStand true f s
begins f s none place wanted = (place, wanted ∙ sym (ap wanted_by none))

-- ---- what is kept of it

pub operands_back : (f : Frame) → from_deepest (values_held f.pieces) ≡ operands f.pieces
operands_back f = ap from_deepest (held_told f.pieces) ∙ turned_back (operands f.pieces)

abbrev kept_at : Frame → ℕ → Kept
kept_at f place = record { call = f.call; start = f.start; program = f.program; variables = f.variables; place = place; operands = operands f.pieces }

kept_there : (is_fork : Bool) (f : Frame) → kept_for is_fork f ≡ kept_at f (kept_for is_fork f).place
kept_there true f = refl
kept_there false f = refl

pub kept_is : (is_fork : Bool) (f : Frame) (k : Kept) (call : Call) (start : Start) (program : Program) (vars : Named Datum) (place : ℕ) (os : List Datum)
    → k ≡ record { call = call; start = start; program = program; variables = vars; place = place; operands = os }
    → call ≡ f.call → start ≡ f.start → program ≡ f.program → vars ≡ f.variables → place ≡ (kept_for is_fork f).place → os ≡ from_deepest (values_held f.pieces) → k ≡ kept_for is_fork f
kept_is is_fork f k call start program vars place os is calls starts programs variables places held =
    let back : os ≡ operands f.pieces = held ∙ operands_back f in
    is
    ∙ (λ i. record { call = calls i; start = starts i; program = programs i; variables = variables i; place = places i; operands = back i })
    ∙ sym (kept_there is_fork f)
