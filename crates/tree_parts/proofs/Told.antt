-- The lines of entries, from the places and the operands of their verbs.
use Rattle.std.proofs.Common.{◌≡◌, ◌∙◌, ap, sym, refl, ℕ, suc, List, [], ◌∷◌, ◌++◌, length, map, Some, codes}
use Rattle.std.specs.Fmt.{decimal}
use Rattle.std.proofs.lemmas.List.{map-append}
use Rattle.spec_value.specs.Datum.{Datum, Text}
use Rattle.spec_program.specs.Construct.{Piece}
use Rattle.spec_program.specs.Spelling.{canonical_lines}
use Rattle.spec_world.specs.World.{Frame, frame_entry, native_entry, Waiting, forked, timed, idle, reading_on}
use Rattle.spec_world.specs.WellFormed.{StandsAtCall}
use Rattle.spec_world.specs.Checkpoint.{fields, counted, list_literal, path, part_numbers, values_held, literal_lines, variable_lines, start_values, call_line, entry_lines}
use Rattle.moo_code.specs.Machine.{Kept, verb, native}
use Rattle.moo_code.specs.Paths.{path_of}
use Rattle.moo_code.specs.Rebuilding.{call_path, from_deepest}
use Rattle.moo_code.specs.Stands.{operands, Waits}
use Rattle.moo_code.proofs.Rebuilding.{frames_rebuilt}
use Rattle.tree_parts.specs.Telling.{or_none, told_path, told_held, outer_lines, each_outer, WaitsAtCalls, CallsTold, ForksTold}
use Rattle.tree_parts.proofs.Arrived.{deepest_first}

-- ---- pieces

pub numbers_told : (ps : List Piece) → part_numbers ps ≡ map decimal (path_of ps)
numbers_told [] = refl
numbers_told (p ∷ ps) = ap (λ l. l ++ decimal p.part ∷ []) (numbers_told ps) ∙ sym (map-append decimal (path_of ps) (p.part ∷ []))

pub held_told : (ps : List Piece) → values_held ps ≡ from_deepest (operands ps)
held_told [] = refl
held_told (p ∷ ps) = ap (λ l. l ++ p.held) (held_told ps) ∙ sym (deepest_first p.held (operands ps))

-- ---- entries

path_told : (why : Waiting) (k : Kept) (path : List ℕ) → WaitsAtCalls why → call_path k ≡ Some path → told_path why k ≡ path
path_told (forked due) k path h e = absurd h
path_told (timed due v) k path h e = ap or_none e
path_told idle k path h e = ap or_none e
path_told (reading_on c) k path h e = ap or_none e

all_held : (why : Waiting) (k : Kept) → WaitsAtCalls why → told_held why k ≡ from_deepest k.operands
all_held (forked due) k h = absurd h
all_held (timed due v) k h = refl
all_held idle k h = refl
all_held (reading_on c) k h = refl

abbrev lines_with : Kept → List Text → List Datum → List Text
lines_with k numbers held =
    call_line k.call (length (canonical_lines k.program))
    ∷ (canonical_lines k.program
    ++ (fields (codes "start" ∷ list_literal (start_values k.start) ∷ [])
    ∷ fields (codes "place" ∷ path numbers ∷ [])
    ∷ counted (codes "vars") (length k.variables)
    ∷ (variable_lines k.variables ++ (counted (codes "held") (length held) ∷ literal_lines held))))

frame_told : (why : Waiting) (f : Frame) (k : Kept) → WaitsAtCalls why → Waits f k → StandsAtCall f → entry_lines (frame_entry f) ≡ outer_lines why (verb k)
frame_told why f k h w st =
    let rebuilt = frames_rebuilt f k w st in
    let numbers : part_numbers f.pieces ≡ map decimal (told_path why k) =
    numbers_told f.pieces ∙ ap (map decimal) (sym (path_told why k (path_of f.pieces) h rebuilt.path)) in
    let held : values_held f.pieces ≡ told_held why k =
    held_told f.pieces ∙ ap (λ (z : Kept). from_deepest z.operands) (sym w.is) ∙ sym (all_held why k h) in
    ap (λ (z : Kept). lines_with z (part_numbers f.pieces) (values_held f.pieces)) (sym w.is)
    ∙ (λ i. lines_with k (numbers i) (held i))

pub calls_told : CallsTold
calls_told why [] [] h w st = record { count = refl; lines = refl }
calls_told why [] (k ∷ ks) h w st = absurd w
calls_told why (frame_entry f ∷ es) [] h w st = absurd w
calls_told why (frame_entry f ∷ es) (native m ∷ ks) h w st = absurd w
calls_told why (native_entry n ∷ es) [] h w st = absurd w
calls_told why (native_entry n ∷ es) (verb k ∷ ks) h w st = absurd w
calls_told why (frame_entry f ∷ es) (verb k ∷ ks) h w st =
    let more = calls_told why es ks h w.1 st.1 in
    record {
      count = ap suc more.count;
      lines = ap (λ l. l ++ entry_lines (frame_entry f)) more.lines ∙ ap (λ l. each_outer why ks ++ l) (frame_told why f k h w.0 st.0);
    }
calls_told why (native_entry n ∷ es) (native m ∷ ks) h w st =
    let more = calls_told why es ks h w.1 st in
    record {
      count = ap suc more.count;
      lines = ap (λ l. l ++ entry_lines (native_entry n)) more.lines ∙ ap (λ z. each_outer why ks ++ entry_lines (native_entry z)) w.0;
    }

pub forks_told : ForksTold
forks_told due [] = record { count = refl; lines = refl }
forks_told due (verb k ∷ ks) =
    let more = forks_told due ks in
    record { count = ap suc more.count; lines = ap (λ l. l ++ outer_lines (forked due) (verb k)) more.lines }
forks_told due (native n ∷ ks) =
    let more = forks_told due ks in
    record { count = ap suc more.count; lines = ap (λ l. l ++ entry_lines (native_entry n)) more.lines }
