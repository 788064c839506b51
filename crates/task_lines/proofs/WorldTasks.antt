-- The tasks of a well-formed world are as they must be for their lines to be read.
use Rattle.std.proofs.Common.{◌≡◌, refl, ℕ, ◌-◌, ◌*◌, ◌≤◌, nat_le, ℤ, pos, negsuc, ◌&&◌, Bool, true, false, List, [], ◌∷◌, ◌++◌, Option, Some, None, IsTrue, leb-true, arith}
use Rattle.std.specs.Prelude.{◌≤ℤ◌, int_le, is_some}
use Rattle.std.specs.List.{list_all}
use Rattle.spec_value.specs.Datum.{Datum, Text, in_number_range, is_text, is_value, list, of_list}
use Rattle.spec_value.specs.Table.{at}
use Rattle.std.proofs.lemmas.Bool.{le-leb}
use Rattle.spec_value.proofs.Keys.{as_type}
use Rattle.spec_value.proofs.Entries.{first_holds, second_holds, both_hold}
use Rattle.spec_program.specs.Construct.{Piece}
use Rattle.spec_program.specs.Trees.{is_tree}
use Rattle.spec_world.specs.World.{World, Link, Frame, Native, Entry, frame_entry, native_entry, Waiting, forked, timed, idle, reading_on, Task}
use Rattle.spec_world.specs.WellFormed.{IsWellFormed, FramesStand, TaskStands, is_connection, frame_fits, native_fits, entry_fits, begins_with_frame, frames, at_beginning, fork_fits, is_moment, waiting_fits, entries_fit}
use Rattle.spec_world.specs.Checkpoint.{start_values, values_held}
use Rattle.spec_checkpoint.specs.Holding.{is_number, call_holds, piece_holds, frame_holds, native_holds, entry_holds, waiting_holds, task_holds}
use Rattle.spec_checkpoint.proofs.Fields.{values_hold}
use Rattle.spec_checkpoint.proofs.FrameRecords.{held_are_values}
use Rattle.moo_code.specs.Paths.{path_of}
use Rattle.line_fields.specs.Values.{nests_no_deeper, is_readable, are_places}
use Rattle.task_lines.specs.Tasks.{variable_reads, FrameReads, NativeReads, OrderReads, AllRead, WaitingReads, is_forked, frame_nests, entry_nests, waiting_nests, TasksAreRead}

-- ---- frames

all_and : (test more : Datum → Bool) (vs : List Datum) → IsTrue (list_all test vs) → IsTrue (list_all more vs) → IsTrue (list_all (λ v. test v && more v) vs)
all_and test more [] h k = refl
all_and test more (v ∷ vs) h k =
    both_hold (test v && more v) _ (both_hold (test v) (more v) (first_holds (test v) _ h) (first_holds (more v) _ k))
    (all_and test more vs (second_holds (test v) _ h) (second_holds (more v) _ k))

all_variables : (es : List (Text × Datum)) → IsTrue (list_all (λ e. is_text e.0 && is_value e.1) es) → IsTrue (list_all (λ e. nests_no_deeper e.1) es) → IsTrue (list_all variable_reads es)
all_variables [] h k = refl
all_variables (e ∷ es) h k =
    let holds : IsTrue (is_text e.0 && is_value e.1) = first_holds (is_text e.0 && is_value e.1) _ h in
    both_hold (variable_reads e) _
    (both_hold (is_text e.0) (is_readable e.1) (first_holds (is_text e.0) (is_value e.1) holds)
    (both_hold (is_value e.1) (nests_no_deeper e.1) (second_holds (is_text e.0) (is_value e.1) holds) (first_holds (nests_no_deeper e.1) _ k)))
    (all_variables es (second_holds (is_text e.0 && is_value e.1) _ h) (second_holds (nests_no_deeper e.1) _ k))

places_both : (ms ns : List ℕ) → IsTrue (are_places ms) → IsTrue (are_places ns) → IsTrue (are_places (ms ++ ns))
places_both [] ns h k = k
places_both (m ∷ ms) ns h k = both_hold (nat_le 1 m && is_number m) _ (first_holds (nat_le 1 m && is_number m) _ h) (places_both ms ns (second_holds (nat_le 1 m && is_number m) _ h) k)

all_places : (ps : List Piece) → IsTrue (list_all piece_holds ps) → IsTrue (are_places (path_of ps))
all_places [] h = refl
all_places (p ∷ ps) h =
    places_both (path_of ps) (p.part ∷ []) (all_places ps (second_holds (piece_holds p) _ h))
    (both_hold (nat_le 1 p.part && is_number p.part) true (first_holds (nat_le 1 p.part && is_number p.part) (list_all is_value p.held) (first_holds (piece_holds p) (list_all piece_holds ps) h)) refl)

frame_reads : (f : Frame) → IsTrue (frame_holds f) → IsTrue (frame_fits f) → IsTrue (frame_nests f) → FrameReads f
frame_reads f h fits nests =
    let behind_call = second_holds (call_holds f.call) (list_all is_value (start_values f.start) && (is_tree f.program && (list_all (λ e. is_text e.0 && is_value e.1) f.variables && list_all piece_holds f.pieces))) h in
    let behind_start = second_holds (list_all is_value (start_values f.start)) (is_tree f.program && (list_all (λ e. is_text e.0 && is_value e.1) f.variables && list_all piece_holds f.pieces)) behind_call in
    let behind_tree = second_holds (is_tree f.program) (list_all (λ e. is_text e.0 && is_value e.1) f.variables && list_all piece_holds f.pieces) behind_start in
    let variables = first_holds (list_all (λ e. is_text e.0 && is_value e.1) f.variables) (list_all piece_holds f.pieces) behind_tree in
    let pieces = second_holds (list_all (λ e. is_text e.0 && is_value e.1) f.variables) (list_all piece_holds f.pieces) behind_tree in
    record {
      call = first_holds (call_holds f.call) _ h;
      start = first_holds (list_all is_value (start_values f.start)) _ behind_call;
      tree = first_holds (is_tree f.program) _ behind_start;
      variables = all_variables f.variables variables (first_holds (list_all (λ e. nests_no_deeper e.1) f.variables) (list_all nests_no_deeper (values_held f.pieces)) nests);
      places = all_places f.pieces pieces;
      held =
          all_and is_value nests_no_deeper (values_held f.pieces) (held_are_values f.pieces pieces)
          (second_holds (list_all (λ e. nests_no_deeper e.1) f.variables) (list_all nests_no_deeper (values_held f.pieces)) nests);
      fits = fits;
    }

native_reads : (n : Native) → IsTrue (native_holds n) → IsTrue (native_fits n.name n.stage n.arguments) → IsTrue (nests_no_deeper (list (of_list n.arguments))) → NativeReads n
native_reads n h fits nests = record {
  fits = fits;
  arguments = both_hold (is_value (list (of_list n.arguments))) (nests_no_deeper (list (of_list n.arguments))) (values_hold n.arguments (second_holds (is_number n.stage) (list_all is_value n.arguments) h)) nests;
}

-- ---- entries

calls_read : (es : List Entry) → FramesStand es → IsTrue (list_all entry_holds es) → IsTrue (list_all entry_fits es) → IsTrue (list_all entry_nests es) → AllRead false es
calls_read [] st h f k = tt
calls_read (frame_entry f ∷ es) st h fits k = (
  (frame_reads f (first_holds (frame_holds f) _ h) (first_holds (frame_fits f) _ fits) (first_holds (frame_nests f) _ k), st.0),
  calls_read es st.1 (second_holds (frame_holds f) (list_all entry_holds es) h) (second_holds (frame_fits f) (list_all entry_fits es) fits) (second_holds (frame_nests f) (list_all entry_nests es) k),
)
calls_read (native_entry n ∷ es) st h fits k = (
  native_reads n (first_holds (native_holds n) (list_all entry_holds es) h) (first_holds (entry_fits (native_entry n)) (list_all entry_fits es) fits)
      (first_holds (entry_nests (native_entry n)) (list_all entry_nests es) k),
  calls_read es st (second_holds (native_holds n) (list_all entry_holds es) h) (second_holds (entry_fits (native_entry n)) (list_all entry_fits es) fits)
      (second_holds (entry_nests (native_entry n)) (list_all entry_nests es) k),
)

no_pieces : (ps : List Piece) → IsTrue (at_beginning ps) → ps ≡ []
no_pieces [] h = refl
no_pieces (p ∷ ps) h = cc

fork_reads : (es : List Entry) → IsTrue (fork_fits es) → IsTrue (list_all entry_holds es) → IsTrue (list_all entry_fits es) → IsTrue (list_all entry_nests es) → AllRead true es
fork_reads [] fork h f k = cc
fork_reads (native_entry n ∷ es) fork h f k = cc
fork_reads (frame_entry f ∷ e ∷ es) fork h fits k = cc
fork_reads (frame_entry f ∷ []) fork h fits k =
    ((frame_reads f (first_holds (frame_holds f) true h) (first_holds (frame_fits f) true fits) (first_holds (frame_nests f) true k), no_pieces f.pieces fork), tt)

-- ---- tasks

at_least : (a : ℕ) (z : ℤ) → IsTrue (int_le (pos a) z) → pos a ≤ℤ z
at_least a z h = record { le = as_type (int_le (pos a) z) h }

at_most : (z : ℤ) (a b : ℕ) → IsTrue (int_le z (pos a)) → a ≤ b → z ≤ℤ pos b
at_most (pos n) a b h le = let less : n ≤ a = leb-true n a h in record { le = as_type (nat_le n b) (le-leb n b (omega (arith, less, le))) }
at_most (negsuc n) a b h le = record { le = as_type (int_le (negsuc n) (pos b)) refl }

connection_of : (w : World) (c : ℤ) → IsWellFormed w → IsTrue (is_some (at w.links c)) → (pos 1 ≤ℤ c) × (c ≤ℤ pos 999999)
connection_of w c wf h = go (at w.links c) refl h
  where
    go : (o : Option Link) → at w.links c ≡ o → IsTrue (is_some o) → (pos 1 ≤ℤ c) × (c ≤ℤ pos 999999)
    go None e i = cc
    go (Some k) e i =
        let is : IsTrue (is_connection c) = first_holds (is_connection c) _ (wf.links c k e) in
        (at_least 1 c (first_holds (int_le (pos 1) c) _ is), at_most c 999999 999999 (second_holds (int_le (pos 1) c) (int_le c (pos 999999)) is) (omega arith))

waiting_reads : (w : World) (t : Task) (why : Waiting) → IsWellFormed w → IsTrue (waiting_fits w t why) → IsTrue (waiting_holds why) → IsTrue (waiting_nests why) → WaitingReads why
waiting_reads w t (forked due) wf fits h k = leb-true due 2147483647 (first_holds (is_moment due) (fork_fits t.entries) fits)
waiting_reads w t (timed due v) wf fits h k = (leb-true due 2147483647 fits, both_hold (is_value v) (nests_no_deeper v) (second_holds (is_number due) (is_value v) h) k)
waiting_reads w t idle wf fits h k = tt
waiting_reads w t (reading_on c) wf fits h k = connection_of w c wf fits

entries_read : (w : World) (i : ℤ) (t : Task) (why : Waiting) → IsTrue (entries_fit w i t) → IsTrue (waiting_fits w t why) → TaskStands t why → IsTrue (list_all entry_holds t.entries) → IsTrue (list_all entry_nests t.entries)
    → AllRead (is_forked why) t.entries × OrderReads (is_forked why) t.entries
entries_read w i t why fits waits st h k = go why waits st
  where
    each : IsTrue (list_all entry_fits t.entries)
    each = second_holds (begins_with_frame t.entries && nat_le (frames t.entries) 50) (list_all entry_fits t.entries) fits

    order : OrderReads false t.entries
    order =
        let both = first_holds (begins_with_frame t.entries && nat_le (frames t.entries) 50) (list_all entry_fits t.entries) fits in (
          first_holds (begins_with_frame t.entries) _ both,
          leb-true (frames t.entries) 50 (second_holds (begins_with_frame t.entries) (nat_le (frames t.entries) 50) both),
        )

    go : (why : Waiting) → IsTrue (waiting_fits w t why) → TaskStands t why → AllRead (is_forked why) t.entries × OrderReads (is_forked why) t.entries
    go (forked due) waits st = let fork = second_holds (is_moment due) (fork_fits t.entries) waits in (fork_reads t.entries fork h each k, fork)
    go (timed due v) waits st = (calls_read t.entries st h each k, order)
    go idle waits st = (calls_read t.entries st h each k, order)
    go (reading_on c) waits st = (calls_read t.entries st h each k, order)

pub tasks_are_read : TasksAreRead
tasks_are_read w i t wf is h k =
    let holds : IsTrue (task_holds t) = second_holds (in_number_range i) (task_holds t) h in
    let behind_player = second_holds (in_number_range t.player) (waiting_holds t.waiting && list_all entry_holds t.entries) holds in
    let both = entries_read w i t t.waiting (wf.task_entries i t is) (wf.task_waits i t is) (wf.task_places i t is) (second_holds (waiting_holds t.waiting) (list_all entry_holds t.entries) behind_player)
    (second_holds (waiting_nests t.waiting) (list_all entry_nests t.entries) k) in
    let ids = wf.task_ids i t is in
    record {
      least = at_least 1 i (first_holds (int_le (pos 1) i) _ ids);
      most =
          at_most i ((w.next - 1) * 64) 2147483584 (second_holds (int_le (pos 1) i) (int_le i (pos ((w.next - 1) * 64))) ids)
          (let next : w.next ≤ 33554432 = leb-true w.next 33554432 (second_holds (nat_le 1 w.next) (nat_le w.next 33554432) wf.next_in_range) in omega (arith, next));
      player = first_holds (in_number_range t.player) _ holds;
      waiting =
          waiting_reads w t t.waiting wf (wf.task_waits i t is) (first_holds (waiting_holds t.waiting) (list_all entry_holds t.entries) behind_player)
          (first_holds (waiting_nests t.waiting) (list_all entry_nests t.entries) k);
      entries = both.0;
      order = both.1;
    }
