-- Tasks whose lines have no fault.
use Rattle.std.proofs.Common.{◌≡◌, ℕ, zero, suc, ◌+◌, ◌<◌, ◌^◌, ◌==◌, ◌&&◌, ℤ, Bool, true, false, List, [], ◌∷◌, ◌++◌, length, codes, Option, Some, None, IsTrue, refl, ap, sym, subst, ◌∙◌, arith, append_assoc, length-append}
use Rattle.std.proofs.lemmas.Bool.{eqb-true}
use Rattle.std.proofs.lemmas.Fmt.{decimal_nonempty}
use Rattle.std.specs.List.{list_all}
use Rattle.std.specs.Fmt.{decimal, signed_decimal}
use Rattle.spec_value.specs.Datum.{Text, same_text, is_text, in_number_range, Datum, list, of_list, is_value}
use Rattle.spec_value.specs.Literal.{literal}
use Rattle.spec_value.specs.Table.{Numbered, Named}
use Rattle.spec_value.proofs.Entries.{first_holds, second_holds, both_hold}
use Rattle.spec_program.specs.Tree.{Program}
use Rattle.spec_program.specs.Trees.{is_tree}
use Rattle.spec_program.specs.Place.{Holds, held_count}
use Rattle.spec_program.specs.Spelling.{canonical_lines}
use Rattle.spec_world.specs.World.{Call, Frame, Native, Entry, frame_entry, native_entry, Waiting, forked, timed, idle, reading_on, Task}
use Rattle.spec_world.specs.Checkpoint as fault
use Rattle.spec_world.specs.Checkpoint.{fields, counted, object_text, list_literal, path, part_numbers, values_held, literal_lines, variable_lines, start_values, call_line, frame_lines, native_text, entry_lines, each_entry, waiting_fields, task_lines, each_task}
use Rattle.spec_checkpoint.specs.Holding.{is_number, call_holds, piece_holds, frame_holds, native_holds, entry_holds, waiting_holds, task_holds, numbered_task_holds}
use Rattle.spec_checkpoint.proofs.Fields.{number_small, values_hold}
use Rattle.spec_checkpoint.proofs.FrameRecords.{held_are_values}
use Rattle.spec_faults.specs.Cutting.{fields_in, field_at}
use Rattle.spec_faults.specs.Plain.{path_in}
use Rattle.spec_faults.specs.Literals.{value_of}
use Rattle.spec_faults.specs.Forms as form
use Rattle.spec_faults.specs.Forms.{Wanted, word, other, value, has_form, or_else, form_among, fault_of}
use Rattle.spec_faults.specs.Codes.{total, begins_held}
use Rattle.spec_faults.specs.Awaited as awaited
use Rattle.spec_faults.specs.Awaited.{Awaited, Verdict, one, again, of_frame, code, entry, place, held, values, each_held, with_value, one_value, only_if, goes_on, told, verb_may_stand, native_may_stand, native_goes, one_entry, holds_at, behind_place, is_fork_line}
use Rattle.spec_faults.specs.FieldLaws.{unmarked, spelled, AreFields}
use Rattle.spec_faults.specs.Reach.{is_near, frame_near, entry_near, waiting_near, task_near}
use Rattle.spec_faults.proofs.LiteralsBack.{some_literal}
use Rattle.spec_faults.proofs.FieldsBack.{decimal_unmarked, signed_unmarked, fields_told}
use Rattle.spec_faults.proofs.Suiting.{Suits, AllSuit, are_fields, form_had}
use Rattle.spec_faults.proofs.FieldsSuit.{filled, a_word, signed_filled, native_suits}
use Rattle.spec_faults.proofs.TasksFine.{has_not, wait_form, fork_form, idle_form, read_form, behind_task, call_said, held_said, as_many_variables, as_many_values, as_many_entries, entries_told}
use Rattle.spec_faults.proofs.Clear.{Clear, clear_same, clear_line, clear_only, clear_test, clear_fields, clear_next, never, past, clear_counted, AllClear, clear_group, clear_code}
use Rattle.spec_faults.proofs.NearFields.{none_passed, literal_near, variable_near, held_near}

-- ---- lines of several forms

a_literal : (v : Datum) → IsTrue (is_value v) → Suits (value (λ t. true)) (literal v)
a_literal v h = record { field = spelled v; filled = filled (literal v) (some_literal v h); meets = refl }

some_decimal : (n : ℕ) → IsTrue (is_number n) → Suits (other (λ t. true)) (decimal n)
some_decimal n h = record { field = unmarked (decimal n) (decimal_unmarked n); filled = filled (decimal n) (decimal_nonempty n (number_small n h)); meets = refl }

-- the fault of a line with these fields, which have that form
found_none : (forms : List (List Wanted)) (ws : List Wanted) (t : Text) (ts : List Text) → AreFields (t ∷ ts) → form_among forms (t ∷ ts) ≡ ws
    → fault_of (form_among forms (fields_in (fields (t ∷ ts)))) (fields_in (fields (t ∷ ts))) ≡ None → fault_of ws (t ∷ ts) ≡ None
found_none forms ws t ts f e n = sym (ap (λ us. fault_of (form_among forms us) us) (fields_told t ts f) ∙ ap (λ us. fault_of us (t ∷ ts)) e) ∙ n

-- ---- how a task waits

abbrev loose_wait : List Wanted
loose_wait = word (codes "task") ∷ other (λ t. true) ∷ word (codes "wait") ∷ other (λ t. true) ∷ value (λ t. true) ∷ []

timed_near : (i : ℤ) (due : ℕ) (v : Datum) → IsTrue (in_number_range i) → IsTrue (is_number due) → IsTrue (is_value v)
    → fault_of (form_among form.task_forms (fields_in (fields (codes "task" ∷ signed_decimal i ∷ waiting_fields (timed due v))))) (fields_in (fields (codes "task" ∷ signed_decimal i ∷ waiting_fields (timed due v)))) ≡ None
    → IsTrue (is_near v)
timed_near i due v h k l e =
    let ts : List Text = signed_decimal i ∷ codes "wait" ∷ decimal due ∷ literal v ∷ [] in
    let s : AllSuit loose_wait (codes "task" ∷ ts) = (
      a_word (codes "task") refl refl,
      (record { field = unmarked (signed_decimal i) (signed_unmarked i); filled = signed_filled i h; meets = refl }, (a_word (codes "wait") refl refl, (some_decimal due k, (a_literal v l, tt)))),
    ) in
    let had : IsTrue (has_form wait_form (codes "task" ∷ ts)) = form_had loose_wait (codes "task" ∷ ts) s in
    let found : form_among form.task_forms (codes "task" ∷ ts) ≡ wait_form =
    has_not fork_form (wait_form ∷ idle_form ∷ read_form ∷ []) (codes "task" ∷ ts) refl ∙ ap (λ b. or_else b wait_form (form_among (idle_form ∷ read_form ∷ []) (codes "task" ∷ ts))) had in
    let p = none_passed wait_form (codes "task" ∷ ts) (found_none form.task_forms wait_form (codes "task") ts (are_fields loose_wait (codes "task" ∷ ts) s) found e) in
    literal_near v l p.1.1.1.1.0

waits_near : (i : ℤ) (x : Waiting) → IsTrue (in_number_range i) → IsTrue (waiting_holds x)
    → fault_of (form_among form.task_forms (fields_in (fields (codes "task" ∷ signed_decimal i ∷ waiting_fields x)))) (fields_in (fields (codes "task" ∷ signed_decimal i ∷ waiting_fields x))) ≡ None
    → IsTrue (waiting_near x)
waits_near i (forked due) h k e = refl
waits_near i (timed due v) h k e = timed_near i due v h (first_holds (is_number due) (is_value v) k) (second_holds (is_number due) (is_value v) k) e
waits_near i idle h k e = refl
waits_near i (reading_on c) h k e = refl

-- ---- values that are held

abbrev HeldClear : List (ℕ × Holds) → Type 0
HeldClear hs = (vs : List Datum) (us : List Text) (more : List Awaited) → total hs ≡ length vs → IsTrue (list_all is_value vs) → Clear (literal_lines vs ++ us) (each_held hs ++ more)
    → IsTrue (list_all is_near vs) × Clear us more

values_clear : (hs : List (ℕ × Holds)) → HeldClear hs → (k around : ℕ) (x : Holds) (before vs : List Datum) (us : List Text) (more : List Awaited) → k + total hs ≡ length vs
    → IsTrue (list_all is_value vs) → Clear (literal_lines vs ++ us) (values k around x before ∷ (each_held hs ++ more)) → IsTrue (list_all is_near vs) × Clear us more
values_clear hs later zero around x before vs us more e h c =
    later vs us more (omega (arith, e)) h (clear_same (values zero around x before ∷ (each_held hs ++ more)) (each_held hs ++ more) (literal_lines vs ++ us) refl c)
values_clear hs later (suc k) around x before [] us more e h c = absurd (omega (arith, e))
values_clear hs later (suc k) around x before (v ∷ vs) us more e h c =
    let left : List Awaited = each_held hs ++ more in
    let behind : List Text = literal_lines vs ++ us in
    let now : List Datum = with_value before (value_of (field_at (fields_in (literal v)) 0)) in
    let none = clear_fields (values (suc k) around x before) left (literal v) behind refl form.held_form (fields_in (literal v)) (λ ts. one_value k around x (with_value before (value_of (field_at ts 0)))) refl c in
    let says = clear_next (values (suc k) around x before) left (literal v) behind refl form.held_form (fields_in (literal v)) (λ ts. one_value k around x (with_value before (value_of (field_at ts 0)))) refl c in
    let next : Clear behind (values k around x now ∷ left) = clear_only (values (suc k) around x before) left (literal v) behind refl (begins_held around x now) fault.frame (values k around x now ∷ []) says c in
    let rest = values_clear hs later k around x now vs us more (omega (arith, e)) (second_holds (is_value v) (list_all is_value vs) h) next in
    (both_hold (is_near v) (list_all is_near vs) (held_near v (first_holds (is_value v) (list_all is_value vs) h) none) rest.0, rest.1)

held_clear : (hs : List (ℕ × Holds)) → HeldClear hs
held_clear [] [] us more e h c = (refl, c)
held_clear [] (v ∷ vs) us more e h c = absurd (omega (arith, e))
held_clear (x ∷ hs) vs us more e h c = values_clear hs (held_clear hs) (held_count x.1) x.0 x.1 [] vs us more e h c

-- as many as their line says
held_lines_clear : (hs : List (ℕ × Holds)) (vs : List Datum) (us : List Text) (more : List Awaited) → length vs < 2 ^ 63 → IsTrue (list_all is_value vs)
    → Clear (counted (codes "held") (length vs) ∷ (literal_lines vs ++ us)) (held hs ∷ more) → IsTrue (list_all is_near vs) × Clear us more
held_lines_clear hs vs us more l h c =
    let behind : List Text = literal_lines vs ++ us in
    let says = held_said hs (length vs) l in
    let as_many = clear_test (held hs) more (counted (codes "held") (length vs)) behind refl (length vs == total hs) fault.frame (each_held hs) says c in
    let from_values = clear_only (held hs) more (counted (codes "held") (length vs)) behind refl (length vs == total hs) fault.frame (each_held hs) says c in
    held_clear hs vs us more (sym (eqb-true (length vs) (total hs) as_many)) h from_values

-- ---- verbs under way

abbrev BehindPlace : List Text → List Awaited → Type 0
BehindPlace us more = (hs : List (ℕ × Holds)) × Clear us (awaited.counted (codes "vars") awaited.each_variable ∷ held hs ∷ more)

place_clear : (is_fork : Bool) (p : Program) (t : Text) (us : List Text) (more : List Awaited) → Clear (t ∷ us) (place is_fork p ∷ more) → BehindPlace us more
place_clear is_fork p t us more c = go (holds_at is_fork p (path_in (field_at (fields_in t) 1))) refl
  where
    says : told (place is_fork p) t ≡ behind_place (holds_at is_fork p (path_in (field_at (fields_in t) 1)))
    says = clear_next (place is_fork p) more t us refl form.place_form (fields_in t) (λ ts. behind_place (holds_at is_fork p (path_in (field_at ts 1)))) refl c

    go : (o : Option (List (ℕ × Holds))) → holds_at is_fork p (path_in (field_at (fields_in t) 1)) ≡ o → BehindPlace us more
    go None e = absurd (never (place is_fork p) more t us refl 0 fault.frame (says ∙ ap behind_place e) c)
    go (Some hs) e = (hs, clear_line (place is_fork p) more t us refl (awaited.counted (codes "vars") awaited.each_variable ∷ held hs ∷ []) (says ∙ ap behind_place e) c)

variables_near : (es : Named Datum) → IsTrue (list_all (λ e. is_text e.0 && is_value e.1) es) → AllClear form.variable_form (variable_lines es) → IsTrue (list_all (λ e. is_near e.1) es)
variables_near [] h c = refl
variables_near (e ∷ es) h c =
    both_hold (is_near e.1) _ (variable_near e (second_holds (is_text e.0) (is_value e.1) (first_holds (is_text e.0 && is_value e.1) (list_all (λ d. is_text d.0 && is_value d.1) es) h)) c.0)
    (variables_near es (second_holds (is_text e.0 && is_value e.1) (list_all (λ d. is_text d.0 && is_value d.1) es) h) c.1)

call_clear : (is_fork : Bool) (verbs : ℕ) (is_behind : Bool) (left : ℕ) (x : Call) (n : ℕ) (us : List Text) (more : List Awaited) → IsTrue (call_holds x) → n < 2 ^ 63
    → Clear (call_line x n ∷ us) (entry is_fork verbs is_behind (suc left) ∷ more) → Clear us (code n [] (of_frame is_fork) ∷ entry is_fork (suc verbs) false left ∷ more)
call_clear is_fork verbs is_behind left x n us more h l c =
    clear_only (entry is_fork verbs is_behind (suc left)) more (call_line x n) us refl (verb_may_stand is_fork verbs) fault.frame (code n [] (of_frame is_fork) ∷ entry is_fork (suc verbs) false left ∷ [])
    (call_said is_fork verbs is_behind left x n h l) c

frame_clear : (is_fork : Bool) (verbs : ℕ) (is_behind : Bool) (left : ℕ) (f : Frame) (us : List Text) (more : List Awaited) → IsTrue (frame_holds f) → length (frame_lines f) < 2 ^ 63
    → Clear (frame_lines f ++ us) (entry is_fork verbs is_behind (suc left) ∷ more) → IsTrue (frame_near f) × Clear us (entry is_fork (suc verbs) false left ∷ more)
frame_clear is_fork verbs is_behind left f us more h l c =
    let h1 = second_holds (call_holds f.call) _ h in
    let h2 = second_holds (list_all is_value (start_values f.start)) _ h1 in
    let h3 = second_holds (is_tree f.program) _ h2 in
    let hv = first_holds (list_all (λ (q : Text × Datum). is_text q.0 && is_value q.1) f.variables) (list_all piece_holds f.pieces) h3 in
    let hp = second_holds (list_all (λ (q : Text × Datum). is_text q.0 && is_value q.1) f.variables) (list_all piece_holds f.pieces) h3 in
    let vs : List Datum = values_held f.pieces in
    let lines : List Text = canonical_lines f.program in
    let n : ℕ = length lines in
    let named : List Text = variable_lines f.variables in
    let held_lines : List Text = counted (codes "held") (length vs) ∷ literal_lines vs in
    let later : List Text = fields (codes "start" ∷ list_literal (start_values f.start) ∷ []) ∷ fields (codes "place" ∷ path (part_numbers f.pieces) ∷ []) ∷ counted (codes "vars") (length f.variables) ∷ (named ++ held_lines) in
    let room1 = length-append lines later in
    let room2 = length-append named held_lines in
    let many1 = as_many_variables f.variables in
    let many2 = as_many_values vs in
    let next : List Awaited = entry is_fork (suc verbs) false left ∷ more in
    let behind_place_line : List Text = counted (codes "vars") (length f.variables) ∷ ((named ++ held_lines) ++ us) in
    let from_code : Clear ((lines ++ later) ++ us) (code n [] (of_frame is_fork) ∷ next) =
    call_clear is_fork verbs is_behind left f.call n ((lines ++ later) ++ us) more (first_holds (call_holds f.call) _ h) (omega arith) c in
    let from_start = clear_code (of_frame is_fork) lines (later ++ us) next (subst (λ ts. Clear ts (code n [] (of_frame is_fork) ∷ next)) (append_assoc lines later us) from_code) in
    let p : Program = from_start.0 in
    let from_place : Clear (fields (codes "place" ∷ path (part_numbers f.pieces) ∷ []) ∷ behind_place_line) (place is_fork p ∷ next) = past from_start.1 in
    let from_vars = place_clear is_fork p (fields (codes "place" ∷ path (part_numbers f.pieces) ∷ [])) behind_place_line next from_place in
    let hs : List (ℕ × Holds) = from_vars.0 in
    let from_named : Clear ((named ++ held_lines) ++ us) (again (length f.variables) awaited.each_variable ∷ held hs ∷ next) =
    clear_counted (codes "vars") awaited.each_variable (length f.variables) ((named ++ held_lines) ++ us) (held hs ∷ next) refl refl (omega arith) from_vars.1 in
    let grouped : Clear (named ++ (held_lines ++ us)) (again (length named) awaited.each_variable ∷ held hs ∷ next) =
    subst (λ m. Clear (named ++ (held_lines ++ us)) (again m awaited.each_variable ∷ held hs ∷ next)) (sym many1)
    (subst (λ ts. Clear ts (again (length f.variables) awaited.each_variable ∷ held hs ∷ next)) (append_assoc named held_lines us) from_named) in
    let from_held = clear_group awaited.each_variable form.variable_form refl named (held_lines ++ us) (held hs ∷ next) grouped in
    let held_there = held_lines_clear hs vs us next (omega arith) (held_are_values f.pieces hp) from_held.1 in
    (both_hold (list_all (λ (q : Text × Datum). is_near q.1) f.variables) (list_all is_near vs) (variables_near f.variables hv from_held.0) held_there.0, held_there.1)

-- ---- built-in functions that wait

abbrev loose_native : List Wanted
loose_native = word (codes "native") ∷ other (λ t. true) ∷ other (λ t. true) ∷ value (λ t. true) ∷ []

native_clear : (is_fork : Bool) (verbs : ℕ) (is_behind : Bool) (left : ℕ) (n : Native) (us : List Text) (more : List Awaited) → IsTrue (native_holds n)
    → Clear (entry_lines (native_entry n) ++ us) (entry is_fork verbs is_behind (suc left) ∷ more) → IsTrue (is_near (list (of_list n.arguments))) × Clear us (entry is_fork verbs true left ∷ more)
native_clear is_fork verbs is_behind left n us more h c =
    let ts : List Text = native_text n.name ∷ decimal n.stage ∷ list_literal n.arguments ∷ [] in
    let line : Text = fields (codes "native" ∷ ts) in
    let forms : List (List Wanted) = form.frame_form ∷ form.native_form ∷ [] in
    let here : Awaited = entry is_fork verbs is_behind (suc left) in
    let arguments = values_hold n.arguments (second_holds (is_number n.stage) (list_all is_value n.arguments) h) in
    let s : AllSuit loose_native (codes "native" ∷ ts) = (
      a_word (codes "native") refl refl,
      (
        record { field = (native_suits n.name).field; filled = (native_suits n.name).filled; meets = refl },
        (some_decimal n.stage (first_holds (is_number n.stage) (list_all is_value n.arguments) h), (a_literal (list (of_list n.arguments)) arguments, tt)),
      ),
    ) in
    let all : AreFields (codes "native" ∷ ts) = are_fields loose_native (codes "native" ∷ ts) s in
    let had : IsTrue (has_form form.native_form (codes "native" ∷ ts)) = form_had loose_native (codes "native" ∷ ts) s in
    let found : form_among forms (codes "native" ∷ ts) ≡ form.native_form = has_not form.frame_form (form.native_form ∷ []) (codes "native" ∷ ts) refl ∙ ap (λ b. or_else b form.native_form []) had in
    let next : List Text → Verdict = λ rs. one_entry is_fork verbs is_behind left (same_text (field_at rs 0) (codes "frame")) rs in
    let none = clear_fields here more line us refl (form_among forms (fields_in line)) (fields_in line) next refl c in
    let says = clear_next here more line us refl (form_among forms (fields_in line)) (fields_in line) next refl c ∙ ap next (fields_told (codes "native") ts all) in
    let p = none_passed form.native_form (codes "native" ∷ ts) (found_none forms form.native_form (codes "native") ts all found none) in (
      literal_near (list (of_list n.arguments)) arguments p.1.1.1.0,
      clear_only here more line us refl (native_may_stand is_fork verbs is_behind left && native_goes (codes "native" ∷ ts)) fault.frame (entry is_fork verbs true left ∷ []) says c,
    )

-- ---- entries

-- so many are left
record Left (is_fork : Bool) (us : List Text) (left : ℕ) (more : List Awaited) : Type 0 where
  verbs : ℕ
  is_behind : Bool
  clear : Clear us (entry is_fork verbs is_behind left ∷ more)

entry_clear : (is_fork : Bool) (e : Entry) (us : List Text) (left : ℕ) (more : List Awaited) → IsTrue (entry_holds e) → length (entry_lines e) < 2 ^ 63
    → Left is_fork (entry_lines e ++ us) (suc left) more → IsTrue (entry_near e) × Left is_fork us left more
entry_clear is_fork (frame_entry f) us left more h room c =
    let here = frame_clear is_fork c.verbs c.is_behind left f us more h room c.clear in (here.0, record { verbs = suc c.verbs; is_behind = false; clear = here.1 })
entry_clear is_fork (native_entry n) us left more h room c =
    let here = native_clear is_fork c.verbs c.is_behind left n us more h c.clear in (here.0, record { verbs = c.verbs; is_behind = true; clear = here.1 })

entries_clear : (is_fork : Bool) (es : List Entry) (us : List Text) (left : ℕ) (more : List Awaited) → IsTrue (list_all entry_holds es) → length (each_entry es) < 2 ^ 63
    → Left is_fork (each_entry es ++ us) (length es + left) more → IsTrue (list_all entry_near es) × Left is_fork us left more
entries_clear is_fork [] us left more h room c = (refl, subst (λ n. Left is_fork us n more) (none_more left) c)
  where
    none_more : (n : ℕ) → 0 + n ≡ n
    none_more n = omega arith
entries_clear is_fork (e ∷ es) us left more h room c =
    let parts = length-append (each_entry es) (entry_lines e) in
    let split : Left is_fork (each_entry es ++ (entry_lines e ++ us)) (suc (length es) + left) more = subst (λ ts. Left is_fork ts (suc (length es) + left) more) (append_assoc (each_entry es) (entry_lines e) us) c in
    let before = entries_clear is_fork es (entry_lines e ++ us) (suc left) more (second_holds (entry_holds e) (list_all entry_holds es) h) (omega arith)
    (subst (λ n. Left is_fork (each_entry es ++ (entry_lines e ++ us)) n more) (one_later (length es) left) split) in
    let here = entry_clear is_fork e us left more (first_holds (entry_holds e) (list_all entry_holds es) h) (omega arith) before.1 in
    (both_hold (entry_near e) (list_all entry_near es) here.0 before.0, here.1)
  where
    one_later : (m n : ℕ) → suc m + n ≡ m + suc n
    one_later m n = omega arith

-- ---- tasks

task_line_clear : (t : Text) (us : List Text) (more : List Awaited) → Clear (t ∷ us) (awaited.task ∷ more)
    → (fault_of (form_among form.task_forms (fields_in t)) (fields_in t) ≡ None) × Clear us (one form.player_form ∷ awaited.entries (is_fork_line (fields_in t)) ∷ more)
task_line_clear t us more c =
    let ws : List Wanted = form_among form.task_forms (fields_in t) in (
      clear_fields awaited.task more t us refl ws (fields_in t) behind_task refl c,
      clear_line awaited.task more t us refl (one form.player_form ∷ awaited.entries (is_fork_line (fields_in t)) ∷ []) (clear_next awaited.task more t us refl ws (fields_in t) behind_task refl c) c,
    )

counted_entries_clear : (is_fork : Bool) (es : List Entry) (us : List Text) (more : List Awaited) → IsTrue (list_all entry_holds es) → length (each_entry es) < 2 ^ 63
    → Clear (counted (codes "entries") (length es) ∷ (each_entry es ++ us)) (awaited.entries is_fork ∷ more) → IsTrue (list_all entry_near es) × Clear us more
counted_entries_clear is_fork es us more h room c =
    let n : ℕ = length es in
    let many = as_many_entries es in
    let behind : Clear (each_entry es ++ us) (entry is_fork 0 false n ∷ more) =
    clear_line (awaited.entries is_fork) more (counted (codes "entries") n) (each_entry es ++ us) refl (entry is_fork 0 false n ∷ []) (entries_told is_fork n (omega (arith, many, room))) c in
    let all : Left is_fork (each_entry es ++ us) n more = record { verbs = 0; is_behind = false; clear = behind } in
    let there = entries_clear is_fork es us 0 more h room (subst (λ m. Left is_fork (each_entry es ++ us) m more) (no_more n) all) in
    (there.0, clear_same (entry is_fork there.1.verbs there.1.is_behind 0 ∷ more) more us refl there.1.clear)
  where
    no_more : (m : ℕ) → m ≡ m + 0
    no_more m = omega arith

task_clear : (i : ℤ) (t : Task) (us : List Text) (more : List Awaited) → IsTrue (numbered_task_holds (i, t)) → length (task_lines i t) < 2 ^ 63 → Clear (task_lines i t ++ us) (awaited.task ∷ more)
    → IsTrue (task_near t) × Clear us more
task_clear i t us more h room c =
    let holds = second_holds (in_number_range t.player) _ (second_holds (in_number_range i) (task_holds t) h) in
    let line : Text = fields (codes "task" ∷ signed_decimal i ∷ waiting_fields t.waiting) in
    let behind : List Text = counted (codes "entries") (length t.entries) ∷ (each_entry t.entries ++ us) in
    let from_player = task_line_clear line (fields (codes "player" ∷ object_text t.player ∷ []) ∷ behind) more c in
    let there = counted_entries_clear (is_fork_line (fields_in line)) t.entries us more (second_holds (waiting_holds t.waiting) (list_all entry_holds t.entries) holds) (omega arith) (past from_player.1) in
    let waits = waits_near i t.waiting (first_holds (in_number_range i) (task_holds t) h) (first_holds (waiting_holds t.waiting) (list_all entry_holds t.entries) holds) from_player.0 in
    (both_hold (waiting_near t.waiting) (list_all entry_near t.entries) waits there.0, there.1)

pub tasks_clear : (es : Numbered Task) (us : List Text) (more : List Awaited) → IsTrue (list_all numbered_task_holds es) → length (each_task es) < 2 ^ 63
    → Clear (each_task es ++ us) (again (length es) awaited.each_task ∷ more) → IsTrue (list_all (λ e. task_near e.1) es) × Clear us more
tasks_clear [] us more h room c = (refl, clear_same (again zero awaited.each_task ∷ more) more us refl c)
tasks_clear (e ∷ es) us more h room c =
    let parts = length-append (task_lines e.0 e.1) (each_task es) in
    let left : List Awaited = again (length es) awaited.each_task ∷ more in
    let first : Clear ((task_lines e.0 e.1 ++ each_task es) ++ us) (awaited.task ∷ left) = clear_same (again (suc (length es)) awaited.each_task ∷ more) (awaited.task ∷ left) (each_task (e ∷ es) ++ us) refl c in
    let here = task_clear e.0 e.1 (each_task es ++ us) left (first_holds (numbered_task_holds e) (list_all numbered_task_holds es) h) (omega arith) (subst (λ ts. Clear ts (awaited.task ∷ left)) (append_assoc (task_lines e.0 e.1) (each_task es) us) first) in
    let later = tasks_clear es us more (second_holds (numbered_task_holds e) (list_all numbered_task_holds es) h) (omega arith) here.1 in
    (both_hold (task_near e.1) _ here.0 later.0, later.1)
