-- The lines of tasks have no fault.
use Rattle.std.proofs.Common.{◌≡◌, ℕ, zero, suc, ◌+◌, ◌<◌, ◌≤◌, ◌^◌, ◌==◌, ◌&&◌, nat_le, ℤ, pos, Bool, true, false, List, [], ◌∷◌, ◌++◌, length, codes, Some, IsTrue, refl, ap, sym, subst, ◌∙◌, arith, append_assoc, length-append, eq-eqb}
use Rattle.spec_value.specs.Datum.{same_text}
use Rattle.std.proofs.lemmas.Bool.{lt-ltb}
use Rattle.std.proofs.lemmas.Bool.Decides.{nat_tests}
use Rattle.std.specs.List.{list_all}
use Rattle.std.specs.Fmt.{decimal, signed_decimal}
use Rattle.spec_value.specs.Datum.{Text, is_text, text, in_number_range, Datum, list, of_list, is_value}
use Rattle.spec_value.specs.Literal.{literal}
use Rattle.spec_value.specs.Table.{Numbered, Named}
use Rattle.spec_value.proofs.Entries.{first_holds, second_holds, both_hold}
use Rattle.spec_program.specs.Tree.{Program}
use Rattle.spec_program.specs.Trees.{is_tree}
use Rattle.spec_program.specs.Construct.{Piece}
use Rattle.spec_program.specs.Place.{Holds}
use Rattle.spec_program.specs.Spelling.{canonical_lines}
use Rattle.spec_world.specs.World.{Call, Start, Frame, NativeName, move_native, create_native, recycle_native, eval_native, Native, Entry, frame_entry, native_entry, Waiting, forked, timed, idle, reading_on, Task}
use Rattle.spec_world.specs.WellFormed.{is_connection, is_moment, pieces_fit, StandsAtCall, frame_fits, native_fits, entry_fits, begins_with_frame, goes_on_after_frame, frames, at_beginning, fork_fits, FramesStand}
use Rattle.spec_world.specs.Checkpoint as fault
use Rattle.spec_world.specs.Checkpoint.{fields, counted, object_text, list_literal, flag, path, part_numbers, values_held, literal_lines, variable_lines, start_values, call_line, frame_lines, native_text, entry_lines, each_entry, waiting_fields, task_lines, each_task}
use Rattle.spec_checkpoint.specs.Holding.{is_number, call_holds, piece_holds, frame_holds, native_holds, entry_holds, waiting_holds, task_holds, numbered_task_holds}
use Rattle.spec_checkpoint.proofs.Fields.{number_small, list_back, values_hold}
use Rattle.spec_checkpoint.proofs.FrameRecords.{held_are_values}
use Rattle.spec_checkpoint.proofs.Turned.{turned}
use Rattle.spec_checkpoint.proofs.Paths.{parts_of}
use Rattle.spec_faults.specs.Cutting.{fields_in, field_at, is_filled}
use Rattle.spec_faults.specs.Plain.{number_in, or_zero, path_in}
use Rattle.spec_faults.specs.Literals.{value_of, items_of, is_literal, any, is_start}
use Rattle.spec_faults.specs.Forms as form
use Rattle.spec_faults.specs.Forms.{Wanted, word, other, value, is_other_word, one_is, has_form, or_else, form_among}
use Rattle.spec_faults.specs.Codes.{total}
use Rattle.spec_faults.specs.Awaited as awaited
use Rattle.spec_faults.specs.Awaited.{Awaited, Verdict, one, again, of_frame, code, entry, place, held, each_held, only_if, goes_on, by_form, by_fault, told, verb_may_stand, native_may_stand, native_named, arguments_fit, native_goes, one_entry, holds_at, behind_place, is_fork_line}
use Rattle.spec_faults.specs.Reach.{is_near, frame_near, entry_near, waiting_near, task_near}
use Rattle.spec_faults.proofs.Spelling.{numbers_told}
use Rattle.spec_faults.proofs.LiteralsBack.{values_told}
use Rattle.spec_faults.proofs.Suiting.{Suits, AllSuit, form_had, no_fault, fields_back, form_told, one_told}
use Rattle.spec_faults.proofs.FieldsSuit.{a_word, a_number, a_count, count_said, an_integer, an_object, a_flag, native_suits, a_value, a_string}
use Rattle.spec_faults.proofs.Fine.{Fine, fine_same, fine_line, AllTold, fine_group}
use Rattle.spec_faults.proofs.Entering.{EachIs}
use Rattle.spec_faults.proofs.ObjectsFine.{fine_one, fine_counted, code_fine}
use Rattle.spec_faults.proofs.Helds.{place_suits, place_said, holds_of, call_holds_at, as_many_held, held_fine}

-- ---- which form a line has

has_it : (ws : List Wanted) (more : List (List Wanted)) (ts : List Text) → AllSuit ws ts → form_among (ws ∷ more) ts ≡ ws
has_it ws more ts s = ap (λ b. or_else b ws (form_among more ts)) (form_had ws ts s)

pub has_not : (ws : List Wanted) (more : List (List Wanted)) (ts : List Text) → has_form ws ts ≡ false → form_among (ws ∷ more) ts ≡ form_among more ts
has_not ws more ts e = ap (λ b. or_else b ws (form_among more ts)) e

never : (b : Bool) → (b && false) ≡ false
never true = refl
never false = refl

-- a line of one of these forms
form_found : (forms : List (List Wanted)) (ws : List Wanted) (t : Text) (ts : List Text) (next : List Text → Verdict) → AllSuit ws (t ∷ ts) → form_among forms (t ∷ ts) ≡ ws
    → by_form (form_among forms (fields_in (fields (t ∷ ts)))) (fields_in (fields (t ∷ ts))) next ≡ next (t ∷ ts)
form_found forms ws t ts next s e =
    ap (λ us. by_form (form_among forms us) us next) (fields_back ws t ts s) ∙ ap (λ us. by_form us (t ∷ ts) next) e ∙ ap (λ o. by_fault o (t ∷ ts) next) (no_fault ws (t ∷ ts) s)

-- ---- how a task waits

abbrev pub fork_form : List Wanted
fork_form = word (codes "task") ∷ form.task_id ∷ word (codes "fork") ∷ form.moment ∷ []

abbrev pub wait_form : List Wanted
wait_form = word (codes "task") ∷ form.task_id ∷ word (codes "wait") ∷ form.moment ∷ form.literal ∷ []

abbrev pub idle_form : List Wanted
idle_form = word (codes "task") ∷ form.task_id ∷ word (codes "idle") ∷ []

abbrev pub read_form : List Wanted
read_form = word (codes "task") ∷ form.task_id ∷ word (codes "read") ∷ form.connection ∷ []

abbrev pub IsTaskId : ℤ → Type 0
IsTaskId i = (n : ℕ) × (i ≡ pos n) × IsTrue (nat_le 1 n && nat_le n 2147483584)

id_small : (n : ℕ) → IsTrue (nat_le 1 n && nat_le n 2147483584) → n < 2 ^ 64
id_small n h = grind (arith, nat_tests)

id_suits : (n : ℕ) → IsTrue (nat_le 1 n && nat_le n 2147483584) → Suits form.task_id (decimal n)
id_suits n h = a_number 1 2147483584 n (id_small n h) h

from_zero : (n : ℕ) → IsTrue (is_moment n) → IsTrue (nat_le 0 n && nat_le n 2147483647)
from_zero n h = grind (arith, nat_tests)

moment_small : (n : ℕ) → IsTrue (is_moment n) → n < 2 ^ 64
moment_small n h = grind (arith, nat_tests)

moment_suits : (n : ℕ) → IsTrue (is_moment n) → Suits form.moment (decimal n)
moment_suits n h = a_number 0 2147483647 n (moment_small n h) (from_zero n h)

abbrev pub is_forked : Waiting → Bool
is_forked (forked due) = true
is_forked (timed due v) = false
is_forked idle = false
is_forked (reading_on c) = false

abbrev pub WaitsSo : Waiting → Type 0
WaitsSo (forked due) = IsTrue (is_moment due)
WaitsSo (timed due v) = IsTrue (is_moment due) × IsTrue (is_value v) × IsTrue (is_near v)
WaitsSo idle = Unit {0}
WaitsSo (reading_on c) = IsTrue (is_connection c) × IsTrue (in_number_range c)

abbrev pub behind_task : List Text → Verdict
behind_task ts = goes_on (one form.player_form ∷ awaited.entries (is_fork_line ts) ∷ [])

not_fork : (n : ℕ) (c : ℤ) → has_form fork_form (codes "task" ∷ decimal n ∷ codes "read" ∷ signed_decimal c ∷ []) ≡ false
not_fork n c = never (list_all is_filled (codes "task" ∷ decimal n ∷ codes "read" ∷ signed_decimal c ∷ []))

waiting_told : (n : ℕ) (x : Waiting) → IsTrue (nat_le 1 n && nat_le n 2147483584) → WaitsSo x
    → told awaited.task (fields (codes "task" ∷ decimal n ∷ waiting_fields x)) ≡ goes_on (one form.player_form ∷ awaited.entries (is_forked x) ∷ [])
waiting_told n (forked due) h k =
    let s : AllSuit fork_form (codes "task" ∷ decimal n ∷ codes "fork" ∷ decimal due ∷ []) = (a_word (codes "task") refl refl, (id_suits n h, (a_word (codes "fork") refl refl, (moment_suits due k, tt)))) in
    form_found form.task_forms fork_form (codes "task") (decimal n ∷ codes "fork" ∷ decimal due ∷ []) behind_task s (has_it fork_form (wait_form ∷ idle_form ∷ read_form ∷ []) (codes "task" ∷ decimal n ∷ codes "fork" ∷ decimal due ∷ []) s)
waiting_told n (timed due v) h k =
    let ts : List Text = codes "task" ∷ decimal n ∷ codes "wait" ∷ decimal due ∷ literal v ∷ [] in
    let s : AllSuit wait_form (codes "task" ∷ decimal n ∷ codes "wait" ∷ decimal due ∷ literal v ∷ []) = (a_word (codes "task") refl refl, (id_suits n h, (a_word (codes "wait") refl refl, (moment_suits due k.0, (a_value any v k.1 k.2 refl, tt))))) in
    form_found form.task_forms wait_form (codes "task") (decimal n ∷ codes "wait" ∷ decimal due ∷ literal v ∷ []) behind_task s
    (has_not fork_form (wait_form ∷ idle_form ∷ read_form ∷ []) ts refl ∙ has_it wait_form (idle_form ∷ read_form ∷ []) ts s)
waiting_told n idle h k =
    let ts : List Text = codes "task" ∷ decimal n ∷ codes "idle" ∷ [] in
    let s : AllSuit idle_form (codes "task" ∷ decimal n ∷ codes "idle" ∷ []) = (a_word (codes "task") refl refl, (id_suits n h, (a_word (codes "idle") refl refl, tt))) in
    form_found form.task_forms idle_form (codes "task") (decimal n ∷ codes "idle" ∷ []) behind_task s
    (has_not fork_form (wait_form ∷ idle_form ∷ read_form ∷ []) ts refl ∙ has_not wait_form (idle_form ∷ read_form ∷ []) ts refl ∙ has_it idle_form (read_form ∷ []) ts s)
waiting_told n (reading_on c) h k =
    let ts : List Text = codes "task" ∷ decimal n ∷ codes "read" ∷ signed_decimal c ∷ [] in
    let s : AllSuit read_form (codes "task" ∷ decimal n ∷ codes "read" ∷ signed_decimal c ∷ []) = (a_word (codes "task") refl refl, (id_suits n h, (a_word (codes "read") refl refl, (an_integer (pos 1) (pos 999999) c k.1 k.0, tt)))) in
    form_found form.task_forms read_form (codes "task") (decimal n ∷ codes "read" ∷ signed_decimal c ∷ []) behind_task s
    (has_not fork_form (wait_form ∷ idle_form ∷ read_form ∷ []) ts (not_fork n c) ∙ has_not wait_form (idle_form ∷ read_form ∷ []) ts refl ∙ has_not idle_form (read_form ∷ []) ts refl ∙ has_it read_form [] ts s)

task_told : (i : ℤ) (x : Waiting) → IsTaskId i → WaitsSo x
    → told awaited.task (fields (codes "task" ∷ signed_decimal i ∷ waiting_fields x)) ≡ goes_on (one form.player_form ∷ awaited.entries (is_forked x) ∷ [])
task_told i x h k =
    ap (λ j. told awaited.task (fields (codes "task" ∷ signed_decimal j ∷ waiting_fields x))) h.1 ∙ waiting_told h.0 x h.2 k

-- ---- verbs under way

abbrev call_fields : Call → ℕ → List Text
call_fields c n = object_text c.this ∷ object_text c.caller ∷ object_text c.definer ∷ object_text c.programmer ∷ literal (text c.verb) ∷ flag c.debug ∷ decimal n ∷ []

entry_forms : List (List Wanted)
entry_forms = form.frame_form ∷ form.native_form ∷ []

pub call_said : (is_fork : Bool) (verbs : ℕ) (is_behind : Bool) (more : ℕ) (c : Call) (n : ℕ) → IsTrue (call_holds c) → n < 2 ^ 63
    → told (entry is_fork verbs is_behind (suc more)) (call_line c n) ≡ only_if (verb_may_stand is_fork verbs) fault.frame (code n [] (of_frame is_fork) ∷ entry is_fork (suc verbs) false more ∷ [])
call_said is_fork verbs is_behind more c n h k =
    let h1 = second_holds (in_number_range c.this) _ h in
    let h2 = second_holds (in_number_range c.caller) _ h1 in
    let h3 = second_holds (in_number_range c.definer) _ h2 in
    let s : AllSuit form.frame_form (codes "frame" ∷ call_fields c n) = (
      a_word (codes "frame") refl refl,
      (
        an_object c.this (first_holds (in_number_range c.this) _ h),
        (
          an_object c.caller (first_holds (in_number_range c.caller) _ h1),
          (
            an_object c.definer (first_holds (in_number_range c.definer) _ h2),
            (
              an_object c.programmer (first_holds (in_number_range c.programmer) (is_text c.verb) h3),
              (a_string c.verb (second_holds (in_number_range c.programmer) (is_text c.verb) h3), (a_flag c.debug, (a_count n k, tt))),
            ),
          ),
        ),
      ),
    ) in
    form_found (form.frame_form ∷ form.native_form ∷ []) form.frame_form (codes "frame") (call_fields c n)
    (λ ts. one_entry is_fork verbs is_behind more (same_text (field_at ts 0) (codes "frame")) ts) s (has_it form.frame_form (form.native_form ∷ []) (codes "frame" ∷ call_fields c n) s)
    ∙ ap (λ m. only_if (verb_may_stand is_fork verbs) fault.frame (code m [] (of_frame is_fork) ∷ entry is_fork (suc verbs) false more ∷ [])) (count_said n k)

call_told : (is_fork : Bool) (verbs : ℕ) (is_behind : Bool) (more : ℕ) (c : Call) (n : ℕ) → IsTrue (call_holds c) → n < 2 ^ 63 → IsTrue (verb_may_stand is_fork verbs)
    → told (entry is_fork verbs is_behind (suc more)) (call_line c n) ≡ goes_on (code n [] (of_frame is_fork) ∷ entry is_fork (suc verbs) false more ∷ [])
call_told is_fork verbs is_behind more c n h k l =
    call_said is_fork verbs is_behind more c n h k ∙ ap (λ b. only_if b fault.frame (code n [] (of_frame is_fork) ∷ entry is_fork (suc verbs) false more ∷ [])) l

variable_told : (e : Text × Datum) → IsTrue (is_text e.0) → IsTrue (is_value e.1) → IsTrue (is_near e.1) → told (one form.variable_form) (fields (codes "var" ∷ literal (text e.0) ∷ literal e.1 ∷ [])) ≡ goes_on []
variable_told e h k l = one_told form.variable_form (codes "var") (literal (text e.0) ∷ literal e.1 ∷ []) (a_word (codes "var") refl refl, (a_string e.0 h, (a_value any e.1 k l refl, tt)))

variables_told : (es : Named Datum) → IsTrue (list_all (λ e. is_text e.0 && is_value e.1) es) → IsTrue (list_all (λ e. is_near e.1) es) → AllTold form.variable_form (variable_lines es)
variables_told [] h k = tt
variables_told (e ∷ es) h k =
    let one = first_holds (is_text e.0 && is_value e.1) (list_all (λ d. is_text d.0 && is_value d.1) es) h in (
      variable_told e (first_holds (is_text e.0) (is_value e.1) one) (second_holds (is_text e.0) (is_value e.1) one) (first_holds (is_near e.1) _ k),
      variables_told es (second_holds (is_text e.0 && is_value e.1) (list_all (λ d. is_text d.0 && is_value d.1) es) h) (second_holds (is_near e.1) _ k),
    )

pub as_many_variables : (es : Named Datum) → length (variable_lines es) ≡ length es
as_many_variables [] = refl
as_many_variables (e ∷ es) = ap suc (as_many_variables es)

pub as_many_values : (vs : List Datum) → length (literal_lines vs) ≡ length vs
as_many_values [] = refl
as_many_values (v ∷ vs) = ap suc (as_many_values vs)

start_suits : (s : Start) → IsTrue (list_all is_value (start_values s)) → Suits (value (is_literal is_start)) (list_literal (start_values s))
start_suits s h = a_value is_start (list (of_list (start_values s))) (values_hold (start_values s) h) refl refl

place_told : (is_fork : Bool) (p : Program) (ps : List Piece) (hs : List (ℕ × Holds)) → IsTrue (list_all piece_holds ps) → holds_at is_fork p (turned (parts_of ps)) ≡ Some hs
    → told (place is_fork p) (fields (codes "place" ∷ path (part_numbers ps) ∷ [])) ≡ goes_on (awaited.counted (codes "vars") awaited.each_variable ∷ held hs ∷ [])
place_told is_fork p ps hs h e =
    form_told form.place_form (codes "place") (path (part_numbers ps) ∷ []) (λ ts. behind_place (holds_at is_fork p (path_in (field_at ts 1)))) (a_word (codes "place") refl refl, (place_suits ps h, tt))
    ∙ ap (λ ns. behind_place (holds_at is_fork p ns)) (place_said ps h) ∙ ap behind_place e

pub held_said : (hs : List (ℕ × Holds)) (n : ℕ) → n < 2 ^ 63 → told (held hs) (counted (codes "held") n) ≡ only_if (n == total hs) fault.frame (each_held hs)
held_said hs n h =
    form_told (form.counted_form (codes "held")) (codes "held") (decimal n ∷ []) (λ ts. only_if (number_in (field_at ts 1) == total hs) fault.frame (each_held hs)) (a_word (codes "held") refl refl, (a_count n h, tt))
    ∙ ap (λ m. only_if (m == total hs) fault.frame (each_held hs)) (count_said n h)

held_told : (hs : List (ℕ × Holds)) (n : ℕ) → n < 2 ^ 63 → total hs ≡ n → told (held hs) (counted (codes "held") n) ≡ goes_on (each_held hs)
held_told hs n h e = held_said hs n h ∙ ap (λ b. only_if b fault.frame (each_held hs)) (eq-eqb n (total hs) (sym e))

-- where it stands, and what it holds there
pub record Stands (is_fork : Bool) (f : Frame) (hs : List (ℕ × Holds)) : Type 0 where
  pub where_it_is : holds_at is_fork f.program (turned (parts_of f.pieces)) ≡ Some hs
  pub as_many : total hs ≡ length (values_held f.pieces)
  pub reads : (us : List Text) (more : List Awaited) → Fine us more → Fine (literal_lines (values_held f.pieces) ++ us) (each_held hs ++ more)

frame_fine : (is_fork : Bool) (verbs : ℕ) (is_behind : Bool) (left : ℕ) (f : Frame) (hs : List (ℕ × Holds)) (us : List Text) (more : List Awaited) → IsTrue (frame_holds f) → IsTrue (frame_near f)
    → Stands is_fork f hs → IsTrue (verb_may_stand is_fork verbs) → length (frame_lines f) < 2 ^ 63 → Fine us (entry is_fork (suc verbs) false left ∷ more)
    → Fine (frame_lines f ++ us) (entry is_fork verbs is_behind (suc left) ∷ more)
frame_fine is_fork verbs is_behind left f hs us more h k st may l g =
    let h1 = second_holds (call_holds f.call) _ h in
    let h2 = second_holds (list_all is_value (start_values f.start)) _ h1 in
    let h3 = second_holds (is_tree f.program) _ h2 in
    let hv = first_holds (list_all (λ (q : Text × Datum). is_text q.0 && is_value q.1) f.variables) (list_all piece_holds f.pieces) h3 in
    let hp = second_holds (list_all (λ (q : Text × Datum). is_text q.0 && is_value q.1) f.variables) (list_all piece_holds f.pieces) h3 in
    let kv = first_holds (list_all (λ (q : Text × Datum). is_near q.1) f.variables) (list_all is_near (values_held f.pieces)) k in
    let vs : List Datum = values_held f.pieces in
    let n : ℕ = length (canonical_lines f.program) in
    let values : List Text = literal_lines vs in
    let named : List Text = variable_lines f.variables in
    let held_lines : List Text = counted (codes "held") (length vs) ∷ values in
    let later : List Text = fields (codes "start" ∷ list_literal (start_values f.start) ∷ []) ∷ fields (codes "place" ∷ path (part_numbers f.pieces) ∷ []) ∷ counted (codes "vars") (length f.variables) ∷ (named ++ held_lines) in
    let room1 = length-append (canonical_lines f.program) later in
    let room2 = length-append named held_lines in
    let many1 = as_many_variables f.variables in
    let many2 = as_many_values vs in
    let next : List Awaited = entry is_fork (suc verbs) false left ∷ more in
    let read_values : Fine (values ++ us) (each_held hs ++ next) = st.reads us next g in
    let read_held : Fine (held_lines ++ us) (held hs ∷ next) = fine_line (held hs) (each_held hs) next (counted (codes "held") (length vs)) (values ++ us) refl (held_told hs (length vs) (omega arith) st.as_many) read_values in
    let read_named : Fine (named ++ (held_lines ++ us)) (again (length f.variables) awaited.each_variable ∷ held hs ∷ next) =
    subst (λ m. Fine (named ++ (held_lines ++ us)) (again m awaited.each_variable ∷ held hs ∷ next)) many1
    (fine_group awaited.each_variable form.variable_form refl named (held_lines ++ us) (held hs ∷ next) (variables_told f.variables hv kv) read_held) in
    let read_vars : Fine (counted (codes "vars") (length f.variables) ∷ ((named ++ held_lines) ++ us)) (awaited.counted (codes "vars") awaited.each_variable ∷ held hs ∷ next) =
    fine_counted (codes "vars") awaited.each_variable (length f.variables) ((named ++ held_lines) ++ us) (held hs ∷ next) refl refl (omega arith)
    (subst (λ ts. Fine ts (again (length f.variables) awaited.each_variable ∷ held hs ∷ next)) (sym (append_assoc named held_lines us)) read_named) in
    let behind_place_line : List Text = counted (codes "vars") (length f.variables) ∷ ((named ++ held_lines) ++ us) in
    let read_place : Fine (fields (codes "place" ∷ path (part_numbers f.pieces) ∷ []) ∷ behind_place_line) (place is_fork f.program ∷ next) =
    fine_line (place is_fork f.program) (awaited.counted (codes "vars") awaited.each_variable ∷ held hs ∷ []) next (fields (codes "place" ∷ path (part_numbers f.pieces) ∷ [])) behind_place_line refl
    (place_told is_fork f.program f.pieces hs hp st.where_it_is) read_vars in
    let read_later : Fine (later ++ us) (one form.start_form ∷ place is_fork f.program ∷ next) =
    fine_one form.start_form (codes "start") (list_literal (start_values f.start) ∷ []) (fields (codes "place" ∷ path (part_numbers f.pieces) ∷ []) ∷ behind_place_line) (place is_fork f.program ∷ next)
    (a_word (codes "start") refl refl, (start_suits f.start (first_holds (list_all is_value (start_values f.start)) _ h1), tt)) read_place in
    let read_code : Fine (canonical_lines f.program ++ (later ++ us)) (code n [] (of_frame is_fork) ∷ next) = code_fine (of_frame is_fork) f.program (later ++ us) next (first_holds (is_tree f.program) _ h2) read_later in
    fine_line (entry is_fork verbs is_behind (suc left)) (code n [] (of_frame is_fork) ∷ entry is_fork (suc verbs) false left ∷ []) more (call_line f.call n) ((canonical_lines f.program ++ later) ++ us) refl
    (call_told is_fork verbs is_behind left f.call n (first_holds (call_holds f.call) _ h) (omega arith) may)
    (subst (λ ts. Fine ts (code n [] (of_frame is_fork) ∷ next)) (sym (append_assoc (canonical_lines f.program) later us)) read_code)

call_stands : (f : Frame) → IsTrue (frame_holds f) → IsTrue (frame_near f) → IsTrue (pieces_fit f.pieces) → StandsAtCall f → Stands false f (holds_of f.pieces)
call_stands f h k fit st =
    let h3 = second_holds (is_tree f.program) _ (second_holds (list_all is_value (start_values f.start)) _ (second_holds (call_holds f.call) _ h)) in
    let hp = second_holds (list_all (λ (q : Text × Datum). is_text q.0 && is_value q.1) f.variables) (list_all piece_holds f.pieces) h3 in
    record {
      where_it_is = call_holds_at f st;
      as_many = as_many_held f.pieces fit;
      reads = λ us more g. held_fine f.pieces us more fit (held_are_values f.pieces hp) (second_holds (list_all (λ (q : Text × Datum). is_near q.1) f.variables) (list_all is_near (values_held f.pieces)) k) g;
    }

fork_stands : (f : Frame) → f.pieces ≡ [] → Stands true f []
fork_stands f none =
    record {
      where_it_is = ap (λ ps. holds_at true f.program (turned (parts_of ps))) none;
      as_many = ap (λ ps. length (values_held ps)) (sym none);
      reads = λ us more g. subst (λ ps. Fine (literal_lines (values_held ps) ++ us) more) (sym none) g;
    }

-- ---- built-in functions that wait

stage_small : (name : NativeName) (stage : ℕ) (vs : List Datum) → IsTrue (native_fits name stage vs) → IsTrue (nat_le 1 stage && nat_le stage 3)
stage_small name zero vs h = none name vs h
  where
    none : (m : NativeName) (us : List Datum) → IsTrue (native_fits m zero us) → IsTrue (nat_le 1 zero && nat_le zero 3)
    none move_native us k = cc
    none create_native us k = cc
    none recycle_native us k = cc
    none eval_native us k = cc
stage_small name (suc zero) vs h = refl
stage_small name (suc (suc zero)) vs h = refl
stage_small name (suc (suc (suc zero))) vs h = refl
stage_small name (suc (suc (suc (suc n)))) vs h = none name vs h
  where
    none : (m : NativeName) (us : List Datum) → IsTrue (native_fits m (suc (suc (suc (suc n)))) us) → IsTrue (nat_le 1 (suc (suc (suc (suc n)))) && nat_le (suc (suc (suc (suc n)))) 3)
    none move_native us k = cc
    none create_native us k = cc
    none recycle_native us k = cc
    none eval_native us k = cc

named_back : (n : NativeName) → native_named (native_text n) ≡ n
named_back move_native = refl
named_back create_native = refl
named_back recycle_native = refl
named_back eval_native = refl

no_frame : (n : NativeName) → same_text (codes "native") (codes "frame") ≡ false
no_frame n = refl

native_goes_on : (n : Native) → IsTrue (is_number n.stage) → IsTrue (list_all is_value n.arguments) → IsTrue (is_near (list (of_list n.arguments))) → IsTrue (native_fits n.name n.stage n.arguments)
    → IsTrue (native_goes (codes "native" ∷ native_text n.name ∷ decimal n.stage ∷ list_literal n.arguments ∷ []))
native_goes_on n h k l fit =
    ap (λ m. arguments_fit m (number_in (decimal n.stage)) (items_of (value_of (list_literal n.arguments)))) (named_back n.name)
    ∙ ap (λ o. arguments_fit n.name (or_zero o) (items_of (value_of (list_literal n.arguments)))) (numbers_told n.stage (number_small n.stage h))
    ∙ ap (λ o. arguments_fit n.name n.stage (items_of o)) (values_told (list (of_list n.arguments)) (values_hold n.arguments k) l)
    ∙ ap (native_fits n.name n.stage) (list_back n.arguments) ∙ fit

native_told : (verbs : ℕ) (is_behind : Bool) (more : ℕ) (n : Native) → IsTrue (native_holds n) → IsTrue (is_near (list (of_list n.arguments))) → IsTrue (native_fits n.name n.stage n.arguments)
    → IsTrue (native_may_stand false verbs is_behind more)
    → told (entry false verbs is_behind (suc more)) (fields (codes "native" ∷ native_text n.name ∷ decimal n.stage ∷ list_literal n.arguments ∷ [])) ≡ goes_on (entry false verbs true more ∷ [])
native_told verbs is_behind more n h k fit may =
    let ts : List Text = native_text n.name ∷ decimal n.stage ∷ list_literal n.arguments ∷ [] in
    let stage = first_holds (is_number n.stage) (list_all is_value n.arguments) h in
    let arguments = second_holds (is_number n.stage) (list_all is_value n.arguments) h in
    let s : AllSuit form.native_form (codes "native" ∷ native_text n.name ∷ decimal n.stage ∷ list_literal n.arguments ∷ []) = (
      a_word (codes "native") refl refl,
      (native_suits n.name, (a_number 1 3 n.stage (number_small n.stage stage) (stage_small n.name n.stage n.arguments fit), (a_value any (list (of_list n.arguments)) (values_hold n.arguments arguments) k refl, tt))),
    ) in
    form_found (form.frame_form ∷ form.native_form ∷ []) form.native_form (codes "native") ts (λ us. one_entry false verbs is_behind more (same_text (field_at us 0) (codes "frame")) us) s
    (has_not form.frame_form (form.native_form ∷ []) (codes "native" ∷ ts) refl ∙ has_it form.native_form [] (codes "native" ∷ ts) s)
    ∙ ap (λ b. only_if b fault.frame (entry false verbs true more ∷ [])) (both_hold (native_may_stand false verbs is_behind more) (native_goes (codes "native" ∷ ts)) may (native_goes_on n stage arguments k fit))

-- ---- entries

abbrev behind_native : List Entry → Bool
behind_native [] = false
behind_native (frame_entry f ∷ es) = false
behind_native (native_entry n ∷ es) = true

moved : (a b c : ℕ) (ts : List Text) (is_fork : Bool) (more : List Awaited) → a ≡ b → Fine ts (entry is_fork 0 false a ∷ more) → Fine ts (entry is_fork 0 false b ∷ more)
moved a b c ts is_fork more e f = subst (λ n. Fine ts (entry is_fork 0 false n ∷ more)) e f

some_frames : (es : List Entry) → IsTrue (begins_with_frame es) → 1 ≤ frames es
some_frames [] h = cc
some_frames (frame_entry f ∷ es) h = omega arith
some_frames (native_entry n ∷ es) h = cc

not_behind : (es : List Entry) → IsTrue (begins_with_frame es) → behind_native es ≡ false
not_behind [] h = refl
not_behind (frame_entry f ∷ es) h = refl
not_behind (native_entry n ∷ es) h = cc

native_stands : (verbs left : ℕ) → 1 ≤ verbs → 1 ≤ left → IsTrue (native_may_stand false verbs false left)
native_stands verbs left h k = grind (arith, nat_tests)

native_there : (verbs left : ℕ) (b : Bool) → b ≡ false → 1 ≤ verbs → 1 ≤ left → IsTrue (native_may_stand false verbs b left)
native_there verbs left b e h k = ap (λ c. native_may_stand false verbs c left) e ∙ native_stands verbs left h k

abbrev each_holds : List Entry → Bool
each_holds es = list_all entry_holds es

abbrev each_near : List Entry → Bool
each_near es = list_all entry_near es

abbrev each_fits : List Entry → Bool
each_fits es = list_all entry_fits es

frame_pieces : (f : Frame) → IsTrue (frame_fits f) → IsTrue (pieces_fit f.pieces)
frame_pieces f h = second_holds _ (pieces_fit f.pieces) h

abbrev Goes : List Entry → List Text → ℕ → List Awaited → Type 0
Goes es us left more = Fine us (entry false (frames es) (behind_native es) left ∷ more) → Fine (each_entry es ++ us) (entry false 0 false (length es + left) ∷ more)

one_frame : (f : Frame) (es : List Entry) (us : List Text) (left : ℕ) (more : List Awaited) → IsTrue (frame_holds f) → IsTrue (frame_near f) → IsTrue (frame_fits f) → StandsAtCall f
    → frames (frame_entry f ∷ es) ≤ 50 → length (frame_lines f) < 2 ^ 63 → Goes es (frame_lines f ++ us) (suc left) more → Goes (frame_entry f ∷ es) us left more
one_frame f es us left more h k fit st few room before g =
    let here = frame_fine false (frames es) (behind_native es) left f (holds_of f.pieces) us more h k (call_stands f h k (frame_pieces f fit) st) (lt-ltb (frames es) 50 (omega arith)) room g in
    subst (λ ts. Fine ts (entry false 0 false (length (frame_entry f ∷ es) + left) ∷ more)) (sym (append_assoc (each_entry es) (frame_lines f) us))
    (moved (length es + suc left) (length (frame_entry f ∷ es) + left) 0 (each_entry es ++ (frame_lines f ++ us)) false more (omega arith) (before here))

one_native : (n : Native) (es : List Entry) (us : List Text) (left : ℕ) (more : List Awaited) → IsTrue (native_holds n) → IsTrue (is_near (list (of_list n.arguments))) → IsTrue (native_fits n.name n.stage n.arguments)
    → IsTrue (begins_with_frame es) → 1 ≤ left → Goes es (entry_lines (native_entry n) ++ us) (suc left) more → Goes (native_entry n ∷ es) us left more
one_native n es us left more h k fit first room before g =
    let here : Fine (entry_lines (native_entry n) ++ us) (entry false (frames es) (behind_native es) (suc left) ∷ more) =
    fine_line (entry false (frames es) (behind_native es) (suc left)) (entry false (frames es) true left ∷ []) more (fields (codes "native" ∷ native_text n.name ∷ decimal n.stage ∷ list_literal n.arguments ∷ [])) us refl
    (native_told (frames es) (behind_native es) left n h k fit (native_there (frames es) left (behind_native es) (not_behind es first) (some_frames es first) room)) g in
    subst (λ ts. Fine ts (entry false 0 false (length (native_entry n ∷ es) + left) ∷ more)) (sym (append_assoc (each_entry es) (entry_lines (native_entry n)) us))
    (moved (length es + suc left) (length (native_entry n ∷ es) + left) 0 (each_entry es ++ (entry_lines (native_entry n) ++ us)) false more (omega arith) (before here))

mutual
  calls_fine : (es : List Entry) (us : List Text) (left : ℕ) (more : List Awaited) → IsTrue (begins_with_frame es) → frames es ≤ 50 → FramesStand es → IsTrue (each_holds es) → IsTrue (each_near es)
      → IsTrue (each_fits es) → length (each_entry es) < 2 ^ 63 → Goes es us left more
  calls_fine [] us left more b few st h k fit room = cc
  calls_fine (native_entry n ∷ es) us left more b few st h k fit room = cc
  calls_fine (frame_entry f ∷ es) us left more b few st h k fit room =
      let parts = length-append (each_entry es) (frame_lines f) in
      one_frame f es us left more (first_holds (frame_holds f) (each_holds es) h) (first_holds (frame_near f) (each_near es) k) (first_holds (frame_fits f) (each_fits es) fit) st.0 few (omega arith)
      (after_fine es (frame_lines f ++ us) (suc left) more b (omega arith) (omega arith) st.1 (second_holds (frame_holds f) (each_holds es) h) (second_holds (frame_near f) (each_near es) k)
      (second_holds (frame_fits f) (each_fits es) fit) (omega arith))

  after_fine : (es : List Entry) (us : List Text) (left : ℕ) (more : List Awaited) → IsTrue (goes_on_after_frame es) → 1 ≤ left → frames es ≤ 50 → FramesStand es → IsTrue (each_holds es)
      → IsTrue (each_near es) → IsTrue (each_fits es) → length (each_entry es) < 2 ^ 63 → Goes es us left more
  after_fine [] us left more b l few st h k fit room = λ g. moved left (0 + left) 0 us false more (omega arith) g
  after_fine (frame_entry f ∷ es) us left more b l few st h k fit room =
      let parts = length-append (each_entry es) (frame_lines f) in
      one_frame f es us left more (first_holds (frame_holds f) (each_holds es) h) (first_holds (frame_near f) (each_near es) k) (first_holds (frame_fits f) (each_fits es) fit) st.0 few (omega arith)
      (after_fine es (frame_lines f ++ us) (suc left) more b (omega arith) (omega arith) st.1 (second_holds (frame_holds f) (each_holds es) h) (second_holds (frame_near f) (each_near es) k)
      (second_holds (frame_fits f) (each_fits es) fit) (omega arith))
  after_fine (native_entry n ∷ es) us left more b l few st h k fit room =
      let parts = length-append (each_entry es) (entry_lines (native_entry n)) in
      one_native n es us left more (first_holds (native_holds n) (each_holds es) h) (first_holds (is_near (list (of_list n.arguments))) (each_near es) k)
      (first_holds (native_fits n.name n.stage n.arguments) (each_fits es) fit) b l
      (calls_fine es (entry_lines (native_entry n) ++ us) (suc left) more b few st (second_holds (native_holds n) (each_holds es) h) (second_holds (is_near (list (of_list n.arguments))) (each_near es) k)
      (second_holds (native_fits n.name n.stage n.arguments) (each_fits es) fit) (omega arith))

no_pieces : (ps : List Piece) → IsTrue (at_beginning ps) → ps ≡ []
no_pieces [] h = refl
no_pieces (p ∷ ps) h = cc

none_left : (is_fork : Bool) (verbs : ℕ) (b : Bool) (us : List Text) (more : List Awaited) → Fine us more → Fine us (entry is_fork verbs b 0 ∷ more)
none_left is_fork verbs b us more f = fine_same (entry is_fork verbs b 0 ∷ more) more us refl f

fork_fine : (es : List Entry) (us : List Text) (more : List Awaited) → IsTrue (fork_fits es) → IsTrue (each_holds es) → IsTrue (each_near es) → length (each_entry es) < 2 ^ 63 → Fine us more
    → Fine (each_entry es ++ us) (entry true 0 false (length es) ∷ more)
fork_fine [] us more b h k room f = cc
fork_fine (native_entry n ∷ es) us more b h k room f = cc
fork_fine (frame_entry x ∷ e ∷ es) us more b h k room f = cc
fork_fine (frame_entry x ∷ []) us more b h k room f =
    frame_fine true 0 false 0 x [] us more (first_holds (frame_holds x) true h) (first_holds (frame_near x) true k) (fork_stands x (no_pieces x.pieces b)) refl room (none_left true 1 false us more f)

abbrev pub EntriesAre : Bool → List Entry → Type 0
EntriesAre true es = IsTrue (fork_fits es)
EntriesAre false es = IsTrue (begins_with_frame es) × (frames es ≤ 50) × FramesStand es

entries_fine : (is_fork : Bool) (es : List Entry) (us : List Text) (more : List Awaited) → EntriesAre is_fork es → IsTrue (each_holds es) → IsTrue (each_near es) → IsTrue (each_fits es)
    → length (each_entry es) < 2 ^ 63 → Fine us more → Fine (each_entry es ++ us) (entry is_fork 0 false (length es) ∷ more)
entries_fine true es us more a h k fit room f = fork_fine es us more a h k room f
entries_fine false es us more a h k fit room f =
    moved (length es + 0) (length es) 0 (each_entry es ++ us) false more (omega arith) (calls_fine es us 0 more a.0 a.1 a.2 h k fit room (none_left false (frames es) (behind_native es) us more f))

pub as_many_entries : (es : List Entry) → length es ≤ length (each_entry es)
as_many_entries [] = omega arith
as_many_entries (frame_entry f ∷ es) = let later = as_many_entries es in let parts = length-append (each_entry es) (frame_lines f) in omega (arith, later, parts)
as_many_entries (native_entry n ∷ es) = let later = as_many_entries es in let parts = length-append (each_entry es) (entry_lines (native_entry n)) in omega (arith, later, parts)

pub entries_told : (is_fork : Bool) (n : ℕ) → n < 2 ^ 63 → told (awaited.entries is_fork) (counted (codes "entries") n) ≡ goes_on (entry is_fork 0 false n ∷ [])
entries_told is_fork n h =
    form_told (form.counted_form (codes "entries")) (codes "entries") (decimal n ∷ []) (λ ts. goes_on (entry is_fork 0 false (number_in (field_at ts 1)) ∷ [])) (a_word (codes "entries") refl refl, (a_count n h, tt))
    ∙ ap (λ m. goes_on (entry is_fork 0 false m ∷ [])) (count_said n h)

-- ---- tasks

pub record TaskIs (i : ℤ) (t : Task) : Type 0 where
  pub number : IsTaskId i
  pub waits : WaitsSo t.waiting
  pub entries : EntriesAre (is_forked t.waiting) t.entries
  pub fits : IsTrue (each_fits t.entries)

task_fine : (i : ℤ) (t : Task) (us : List Text) (more : List Awaited) → TaskIs i t → IsTrue (task_holds t) → IsTrue (task_near t) → length (task_lines i t) < 2 ^ 63 → Fine us more
    → Fine (task_lines i t ++ us) (awaited.task ∷ more)
task_fine i t us more is h k room f =
    let many = as_many_entries t.entries in
    let is_fork : Bool = is_forked t.waiting in
    let holds = second_holds (waiting_holds t.waiting) (each_holds t.entries) (second_holds (in_number_range t.player) _ h) in
    let near = second_holds (waiting_near t.waiting) (each_near t.entries) k in
    let inner = entries_fine is_fork t.entries us more is.entries holds near is.fits (omega arith) f in
    let count : Fine (counted (codes "entries") (length t.entries) ∷ (each_entry t.entries ++ us)) (awaited.entries is_fork ∷ more) =
    fine_line (awaited.entries is_fork) (entry is_fork 0 false (length t.entries) ∷ []) more (counted (codes "entries") (length t.entries)) (each_entry t.entries ++ us) refl (entries_told is_fork (length t.entries) (omega arith)) inner in
    let player : Fine (fields (codes "player" ∷ object_text t.player ∷ []) ∷ counted (codes "entries") (length t.entries) ∷ (each_entry t.entries ++ us)) (one form.player_form ∷ awaited.entries is_fork ∷ more) =
    fine_one form.player_form (codes "player") (object_text t.player ∷ []) (counted (codes "entries") (length t.entries) ∷ (each_entry t.entries ++ us)) (awaited.entries is_fork ∷ more)
    (a_word (codes "player") refl refl, (an_object t.player (first_holds (in_number_range t.player) _ h), tt)) count in
    fine_line awaited.task (one form.player_form ∷ awaited.entries is_fork ∷ []) more (fields (codes "task" ∷ signed_decimal i ∷ waiting_fields t.waiting))
    (fields (codes "player" ∷ object_text t.player ∷ []) ∷ counted (codes "entries") (length t.entries) ∷ (each_entry t.entries ++ us)) refl (task_told i t.waiting is.number is.waits) player

pub tasks_fine : (es : Numbered Task) (us : List Text) (more : List Awaited) → EachIs TaskIs es → IsTrue (list_all numbered_task_holds es) → IsTrue (list_all (λ e. task_near e.1) es)
    → length (each_task es) < 2 ^ 63 → Fine us more → Fine (each_task es ++ us) (again (length es) awaited.each_task ∷ more)
tasks_fine [] us more is h k room f = fine_same (again zero awaited.each_task ∷ more) more us refl f
tasks_fine (e ∷ es) us more is h k room f =
    let parts = length-append (task_lines e.0 e.1) (each_task es) in
    let later = tasks_fine es us more is.1 (second_holds (numbered_task_holds e) (list_all numbered_task_holds es) h) (second_holds (task_near e.1) _ k) (omega arith) f in
    let here = task_fine e.0 e.1 (each_task es ++ us) (again (length es) awaited.each_task ∷ more) is.0 (second_holds (in_number_range e.0) (task_holds e.1) (first_holds (numbered_task_holds e) (list_all numbered_task_holds es) h))
    (first_holds (task_near e.1) _ k) (omega arith) later in
    fine_same (again (suc (length es)) awaited.each_task ∷ more) (awaited.task ∷ again (length es) awaited.each_task ∷ more) (each_task (e ∷ es) ++ us) refl
    (subst (λ ts. Fine ts (awaited.task ∷ again (length es) awaited.each_task ∷ more)) (sym (append_assoc (task_lines e.0 e.1) (each_task es) us)) here)

pub as_many_tasks : (es : Numbered Task) → length es ≤ length (each_task es)
as_many_tasks [] = omega arith
as_many_tasks (e ∷ es) =
    let later = as_many_tasks es in
    let room = length-append (task_lines e.0 e.1) (each_task es) in
    let own : 1 ≤ length (task_lines e.0 e.1) = omega arith in
    omega (arith, later, room, own)
