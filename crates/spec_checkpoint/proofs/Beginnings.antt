-- The last line of a text is `end`, and no other line is.
use Rattle.std.proofs.Common.{◌≡◌, ℤ, pos, negsuc, List, [], ◌∷◌, ◌++◌, IsTrue, Bool, true, false, not, refl, sym, subst, ◌∙◌, cond, codes, append_assoc, length, Option, Some, None}
use Rattle.std.specs.List.{list_all}
use Rattle.std.specs.Fmt.{decimal}
use Rattle.spec_value.specs.Datum.{Text, same_text, Datum, integer, object, text, error, list, ErrorCode, no_error, type_mismatch, zero_division, permission_denied, property_not_found, verb_not_found, variable_not_found, invalid_indirection, recursive_move, too_many_calls, range_error, wrong_argument_count, move_refused, invalid_argument, limit_exceeded, float_error}
use Rattle.spec_value.specs.Literal.{literal, error_name}
use Rattle.spec_value.specs.Table.{Named, Numbered}
use Rattle.spec_value.proofs.Entries.{first_holds, second_holds, both_hold}
use Rattle.spec_value.proofs.Same.{same_texts}
use Rattle.spec_program.specs.Tree.{Program}
use Rattle.spec_program.specs.Spelling.{canonical_lines}
use Rattle.spec_world.specs.World.{World, Object, Slot, Verb, Link, Frame, Entry, frame_entry, native_entry, Task, object_at}
use Rattle.spec_world.specs.Inherit.{ancestors, slot_at}
use Rattle.spec_world.specs.Checkpoint.{with_line_ends, world_lines, checkpoint_text, link_lines, slot_line, slots_named, names_defined, slots_along, slot_lines, each_verb, verb_lines, object_lines, each_object, variable_lines, literal_lines, values_held, frame_lines, entry_lines, each_entry, task_lines, each_task, counted, fields, list_literal, start_values, path, part_numbers}
use Rattle.spec_checkpoint.specs.Lines.{is_line, are_lines}
use Rattle.spec_checkpoint.specs.Beginnings.{NoneBegins}
use Rattle.spec_checkpoint.proofs.Numbers.{are_digits, decimal_digits}
use Rattle.spec_checkpoint.proofs.Lines.{line_same}
use Rattle.spec_checkpoint.proofs.CodeLines.{closes, are_closed, code_closed, all_both}

abbrev is_end : Text → Bool
is_end t = same_text t (codes "end")

abbrev goes_on : Text → Bool
goes_on t = not (is_end t)

-- none of them is the last line
abbrev all_go_on : List Text → Bool
all_go_on ts = list_all goes_on ts

-- ---- lines of programs

closed_goes_on : (t : Text) → IsTrue (closes t) → IsTrue (goes_on t)
closed_goes_on t h = go (is_end t) refl
  where
    go : (b : Bool) → is_end t ≡ b → IsTrue (not b)
    go true e = let k : IsTrue (closes (codes "end")) = subst (λ u. IsTrue (closes u)) (same_texts t (codes "end") e) h in cc
    go false e = refl

closed_go_on : (ts : List Text) → IsTrue (are_closed ts) → IsTrue (all_go_on ts)
closed_go_on [] h = refl
closed_go_on (t ∷ ts) h = both_hold (goes_on t) (all_go_on ts) (closed_goes_on t (first_holds (closes t) (are_closed ts) h)) (closed_go_on ts (second_holds (closes t) (are_closed ts) h))

code_goes_on : (p : Program) → IsTrue (all_go_on (canonical_lines p))
code_goes_on p = closed_go_on (canonical_lines p) (code_closed p)

-- ---- literals

digits_go_on : (t : Text) → IsTrue (are_digits t) → IsTrue (goes_on t)
digits_go_on t h = go (is_end t) refl
  where
    go : (b : Bool) → is_end t ≡ b → IsTrue (not b)
    go true e = let k : IsTrue (are_digits (codes "end")) = subst (λ u. IsTrue (are_digits u)) (same_texts t (codes "end") e) h in cc
    go false e = refl

error_goes_on : (e : ErrorCode) → IsTrue (goes_on (error_name e))
error_goes_on no_error = refl
error_goes_on type_mismatch = refl
error_goes_on zero_division = refl
error_goes_on permission_denied = refl
error_goes_on property_not_found = refl
error_goes_on verb_not_found = refl
error_goes_on variable_not_found = refl
error_goes_on invalid_indirection = refl
error_goes_on recursive_move = refl
error_goes_on too_many_calls = refl
error_goes_on range_error = refl
error_goes_on wrong_argument_count = refl
error_goes_on move_refused = refl
error_goes_on invalid_argument = refl
error_goes_on limit_exceeded = refl
error_goes_on float_error = refl

literal_goes_on : (v : Datum) → IsTrue (goes_on (literal v))
literal_goes_on (integer (pos n)) = digits_go_on (decimal n) (decimal_digits n)
literal_goes_on (integer (negsuc n)) = refl
literal_goes_on (object z) = refl
literal_goes_on (text t) = refl
literal_goes_on (error e) = error_goes_on e
literal_goes_on (list xs) = refl

literals_go_on : (vs : List Datum) → IsTrue (all_go_on (literal_lines vs))
literals_go_on [] = refl
literals_go_on (v ∷ vs) = both_hold (goes_on (literal v)) (all_go_on (literal_lines vs)) (literal_goes_on v) (literals_go_on vs)

-- ---- records

both_go_on : (ts us : List Text) → IsTrue (all_go_on ts) → IsTrue (all_go_on us) → IsTrue (all_go_on (ts ++ us))
both_go_on = all_both goes_on

links_go_on : (es : Numbered Link) → IsTrue (all_go_on (link_lines es))
links_go_on [] = refl
links_go_on (e ∷ es) = links_go_on es

slot_goes_on : (s : Option Slot) → IsTrue (all_go_on (slot_line s))
slot_goes_on None = refl
slot_goes_on (Some s) = refl

named_go_on : (w : World) (o : ℤ) (ts : List Text) → IsTrue (all_go_on (slots_named w o ts))
named_go_on w o [] = refl
named_go_on w o (t ∷ ts) = both_go_on (slot_line (slot_at w o t)) (slots_named w o ts) (slot_goes_on (slot_at w o t)) (named_go_on w o ts)

slots_go_on : (w : World) (o : ℤ) (ps : List ℤ) → IsTrue (all_go_on (slots_along w o ps))
slots_go_on w o [] = refl
slots_go_on w o (p ∷ ps) =
    both_go_on (slots_named w o (names_defined (object_at w p))) (slots_along w o ps) (named_go_on w o (names_defined (object_at w p))) (slots_go_on w o ps)

verbs_go_on : (vs : List Verb) → IsTrue (all_go_on (each_verb vs))
verbs_go_on [] = refl
verbs_go_on (v ∷ vs) = both_go_on (canonical_lines v.program) (each_verb vs) (code_goes_on v.program) (verbs_go_on vs)

object_goes_on : (w : World) (o : ℤ) (x : Object) → IsTrue (all_go_on (object_lines w o x))
object_goes_on w o x = both_go_on (slot_lines w o) (verb_lines x.verbs) (slots_go_on w o (ancestors w o)) (verbs_go_on x.verbs)

objects_go_on : (w : World) (es : Numbered Object) → IsTrue (all_go_on (each_object w es))
objects_go_on w [] = refl
objects_go_on w (e ∷ es) = both_go_on (object_lines w e.0 e.1) (each_object w es) (object_goes_on w e.0 e.1) (objects_go_on w es)

variables_go_on : (es : Named Datum) → IsTrue (all_go_on (variable_lines es))
variables_go_on [] = refl
variables_go_on (e ∷ es) = variables_go_on es

frame_goes_on : (f : Frame) → IsTrue (all_go_on (frame_lines f))
frame_goes_on f =
    let values : List Text = literal_lines (values_held f.pieces) in
    let variables : List Text = variable_lines f.variables ++ (counted (codes "held") (length (values_held f.pieces)) ∷ values) in
    both_go_on (canonical_lines f.program) (fields (codes "start" ∷ list_literal (start_values f.start) ∷ []) ∷ fields (codes "place" ∷ path (part_numbers f.pieces) ∷ []) ∷ counted (codes "vars") (length f.variables) ∷ variables)
    (code_goes_on f.program)
    (both_go_on (variable_lines f.variables) (counted (codes "held") (length (values_held f.pieces)) ∷ values) (variables_go_on f.variables) (literals_go_on (values_held f.pieces)))

entry_goes_on : (e : Entry) → IsTrue (all_go_on (entry_lines e))
entry_goes_on (frame_entry f) = frame_goes_on f
entry_goes_on (native_entry n) = refl

entries_go_on : (es : List Entry) → IsTrue (all_go_on (each_entry es))
entries_go_on [] = refl
entries_go_on (e ∷ es) = both_go_on (each_entry es) (entry_lines e) (entries_go_on es) (entry_goes_on e)

task_goes_on : (i : ℤ) (t : Task) → IsTrue (all_go_on (task_lines i t))
task_goes_on i t = entries_go_on t.entries

tasks_go_on : (es : Numbered Task) → IsTrue (all_go_on (each_task es))
tasks_go_on [] = refl
tasks_go_on (e ∷ es) = both_go_on (task_lines e.0 e.1) (each_task es) (task_goes_on e.0 e.1) (tasks_go_on es)

-- ---- the whole

abbrev is_none_left : List Text → Bool
is_none_left [] = true
is_none_left (t ∷ ts) = false

-- it is there, and nothing behind it
abbrev ends_once : List Text → Bool
ends_once [] = false
ends_once (t ∷ ts) = cond (is_end t) (is_none_left ts) (ends_once ts)

past : (ts us : List Text) → IsTrue (all_go_on ts) → IsTrue (ends_once us) → IsTrue (ends_once (ts ++ us))
past [] us h k = k
past (t ∷ ts) us h k = go (is_end t) (first_holds (goes_on t) (all_go_on ts) h) (past ts us (second_holds (goes_on t) (all_go_on ts) h) k)
  where
    go : (b : Bool) → IsTrue (not b) → IsTrue (ends_once (ts ++ us)) → IsTrue (cond b (is_none_left (ts ++ us)) (ends_once (ts ++ us)))
    go true n rest = cc
    go false n rest = rest

world_ends_once : (w : World) → IsTrue (ends_once (world_lines w))
world_ends_once w =
    let tasks : List Text = each_task w.tasks ++ codes "end" ∷ [] in
    let objects : List Text = each_object w w.objects ++ (counted (codes "tasks") (length w.tasks) ∷ tasks) in
    past (link_lines w.links) (counted (codes "objects") (length w.objects) ∷ objects) (links_go_on w.links)
    (past (each_object w w.objects) (counted (codes "tasks") (length w.tasks) ∷ tasks) (objects_go_on w w.objects) (past (each_task w.tasks) (codes "end" ∷ []) (tasks_go_on w.tasks) refl))

some_text : (t r s : Text) → (t ++ 10 ∷ r) ++ s ≡ [] → ⊥
some_text [] r s e = cc
some_text (c ∷ t) r s e = cc

none_left : (ts : List Text) → IsTrue (is_none_left ts) → ts ≡ []
none_left [] h = refl
none_left (t ∷ ts) h = cc

nothing_behind : (ts us : List Text) (rest : Text) → IsTrue (are_lines ts) → IsTrue (are_lines us) → IsTrue (ends_once ts) → IsTrue (ends_once us)
    → with_line_ends ts ++ rest ≡ with_line_ends us → rest ≡ []
nothing_behind [] us rest h k f g e = cc
nothing_behind (t ∷ ts) [] rest h k f g e = absurd (some_text t (with_line_ends ts) rest e)
nothing_behind (t ∷ ts) (u ∷ us) rest h k f g e =
    let p = line_same t u (with_line_ends ts ++ rest) (with_line_ends us) (first_holds (is_line t) (are_lines ts) h) (first_holds (is_line u) (are_lines us) k) (sym (append_assoc t (10 ∷ with_line_ends ts) rest) ∙ e) in
    go (is_end t) f (subst (λ x. IsTrue (cond (is_end x) (is_none_left us) (ends_once us))) (sym p.0) g) p.1
    (nothing_behind ts us rest (second_holds (is_line t) (are_lines ts) h) (second_holds (is_line u) (are_lines us) k))
  where
    go : (b : Bool) → IsTrue (cond b (is_none_left ts) (ends_once ts)) → IsTrue (cond b (is_none_left us) (ends_once us)) → with_line_ends ts ++ rest ≡ with_line_ends us
        → (IsTrue (ends_once ts) → IsTrue (ends_once us) → with_line_ends ts ++ rest ≡ with_line_ends us → rest ≡ []) → rest ≡ []
    go true m n is more = subst (λ xs. with_line_ends xs ++ rest ≡ []) (none_left ts m) (subst (λ ys. with_line_ends ts ++ rest ≡ with_line_ends ys) (none_left us n) is)
    go false m n is more = more m n is

pub none_begins : NoneBegins
unfolding checkpoint_text
none_begins v w rest h k e = nothing_behind (world_lines v) (world_lines w) rest h k (world_ends_once v) (world_ends_once w) e
