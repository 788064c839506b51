-- The lines of a frame tell all of it but the constructs under way.
use Rattle.std.proofs.Common.{◌≡◌, ℕ, ℤ, List, [], ◌∷◌, ◌++◌, length, get_or, drop, IsTrue, Bool, false, not, ◌&&◌, ◌==◌, nat_lt, refl, ap, sym, subst, ◌∙◌, codes, append_assoc}
use Rattle.std.specs.List.{list_all}
use Rattle.std.specs.Fmt.{decimal}
use Rattle.std.proofs.lemmas.List.{append_cancel_left, append-nil}
use Rattle.spec_value.specs.Datum.{Text, is_text, Datum, integer, object, text, error, list, in_number_range, is_value}
use Rattle.spec_value.specs.Literal.{literal, data_text}
use Rattle.spec_value.specs.Datum.{of_list}
use Rattle.spec_value.specs.Table.{Named}
use Rattle.spec_value.proofs.Entries.{first_holds, second_holds, both_hold}
use Rattle.spec_program.specs.Tree.{Program}
use Rattle.spec_program.specs.Trees.{is_tree}
use Rattle.spec_program.specs.Construct.{Piece}
use Rattle.spec_program.specs.Spelling.{canonical_lines}
use Rattle.spec_spelling.proofs.ProgramsCut.{one_tree}
use Rattle.spec_world.specs.World.{Call, Start, Frame}
use Rattle.spec_world.specs.Checkpoint.{fields, counted, object_text, list_literal, flag, path, part_numbers, values_held, literal_lines, variable_lines, start_values, frame_lines}
use Rattle.spec_checkpoint.specs.Holding.{call_holds, piece_holds, frame_holds}
use Rattle.spec_checkpoint.proofs.Numbers.{tail_same}
use Rattle.spec_checkpoint.proofs.Values.{sort_of, first_sort, first_is}
use Rattle.spec_checkpoint.proofs.CodeLines.{closes, code_closed}
use Rattle.spec_checkpoint.proofs.Runs.{first_same, rest_same, stops, runs_read_once}
use Rattle.spec_checkpoint.proofs.Fields.{object_same, quoted_same, whole_list, flag_same}
use Rattle.spec_checkpoint.proofs.RecordLines.{variables_read_once, held_read_once}
use Rattle.spec_checkpoint.proofs.OpenLines.{not_closed_behind}
use Rattle.spec_checkpoint.proofs.Paths.{parts_of, is_place, parts_told}

-- ---- what is shown of it: of the pieces the numbers of their parts, the innermost first, and all values that they hold

pub record FrameShown : Type 0 where
  pub call : Call
  pub start : Start
  pub program : Program
  pub variables : Named Datum
  pub parts : List ℕ
  pub held : List Datum

abbrev pub frame_key : Frame → FrameShown
frame_key f = record { call = f.call; start = f.start; program = f.program; variables = f.variables; parts = parts_of f.pieces; held = values_held f.pieces }

-- ---- lines of values and of variables

abbrev pub is_value_line : Text → Bool
is_value_line t = nat_lt (first_sort t) 5

sort_small : (v : Datum) → IsTrue (nat_lt (sort_of v) 5)
sort_small (integer z) = refl
sort_small (object z) = refl
sort_small (text t) = refl
sort_small (error e) = refl
sort_small (list xs) = refl

value_line : (v : Datum) → IsTrue (is_value v) → IsTrue (is_value_line (literal v))
value_line v h = subst (λ n. IsTrue (nat_lt n 5)) (sym (first_is v [] h) ∙ ap first_sort (append-nil (literal v))) (sort_small v)

value_lines : (vs : List Datum) → IsTrue (list_all is_value vs) → IsTrue (list_all is_value_line (literal_lines vs))
value_lines [] h = refl
value_lines (v ∷ vs) h =
    both_hold (is_value_line (literal v)) (list_all is_value_line (literal_lines vs)) (value_line v (first_holds (is_value v) (list_all is_value vs) h)) (value_lines vs (second_holds (is_value v) (list_all is_value vs) h))

abbrev is_variable_line : Text → Bool
is_variable_line [] = false
is_variable_line (c ∷ t) = c == 118

variables_are_lines : (es : Named Datum) → IsTrue (list_all is_variable_line (variable_lines es))
variables_are_lines [] = refl
variables_are_lines (e ∷ es) = variables_are_lines es

values_of : (es : Named Datum) → IsTrue (list_all (λ e. is_text e.0 && is_value e.1) es) → IsTrue (list_all (λ e. is_value e.1) es)
values_of [] h = refl
values_of (e ∷ es) h =
    both_hold (is_value e.1) (list_all (λ d. is_value d.1) es) (second_holds (is_text e.0) (is_value e.1) (first_holds (is_text e.0 && is_value e.1) _ h)) (values_of es (second_holds (is_text e.0 && is_value e.1) (list_all (λ d. is_text d.0 && is_value d.1) es) h))

both_lists : (us vs : List Datum) → IsTrue (list_all is_value us) → IsTrue (list_all is_value vs) → IsTrue (list_all is_value (us ++ vs))
both_lists [] vs h k = k
both_lists (u ∷ us) vs h k = both_hold (is_value u) (list_all is_value (us ++ vs)) (first_holds (is_value u) (list_all is_value us) h) (both_lists us vs (second_holds (is_value u) (list_all is_value us) h) k)

pub held_are_values : (ps : List Piece) → IsTrue (list_all piece_holds ps) → IsTrue (list_all is_value (values_held ps))
held_are_values [] h = refl
held_are_values (p ∷ ps) h =
    both_lists (values_held ps) p.held (held_are_values ps (second_holds (piece_holds p) (list_all piece_holds ps) h)) (second_holds (is_place p.part) (list_all is_value p.held) (first_holds (piece_holds p) (list_all piece_holds ps) h))

-- ---- a call, and what its command line gave

abbrev call_fields : Call → Text → Text
call_fields c r =
    object_text c.this ++ (32 ∷ (object_text c.caller ++ (32 ∷ (object_text c.definer ++ (32 ∷ (object_text c.programmer ++ (32 ∷ (literal (text c.verb) ++ (32 ∷ (flag c.debug ++ (32 ∷ r)))))))))))

call_told : (c d : Call) (r s : Text) → IsTrue (call_holds c) → IsTrue (call_holds d) → call_fields c r ≡ call_fields d s → c ≡ d
call_told c d r s h k e =
    let h1 = second_holds (in_number_range c.this) _ h in
    let k1 = second_holds (in_number_range d.this) _ k in
    let h2 = second_holds (in_number_range c.caller) _ h1 in
    let k2 = second_holds (in_number_range d.caller) _ k1 in
    let h3 = second_holds (in_number_range c.definer) _ h2 in
    let k3 = second_holds (in_number_range d.definer) _ k2 in
    let a1 : Text = flag c.debug ++ (32 ∷ r) in
    let b1 : Text = flag d.debug ++ (32 ∷ s) in
    let a2 : Text = literal (text c.verb) ++ (32 ∷ a1) in
    let b2 : Text = literal (text d.verb) ++ (32 ∷ b1) in
    let a3 : Text = object_text c.programmer ++ (32 ∷ a2) in
    let b3 : Text = object_text d.programmer ++ (32 ∷ b2) in
    let a4 : Text = object_text c.definer ++ (32 ∷ a3) in
    let b4 : Text = object_text d.definer ++ (32 ∷ b3) in
    let a5 : Text = object_text c.caller ++ (32 ∷ a4) in
    let b5 : Text = object_text d.caller ++ (32 ∷ b4) in
    let this = object_same c.this d.this (32 ∷ a5) (32 ∷ b5) (first_holds (in_number_range c.this) _ h) (first_holds (in_number_range d.this) _ k) refl refl e in
    let caller = object_same c.caller d.caller (32 ∷ a4) (32 ∷ b4) (first_holds (in_number_range c.caller) _ h1) (first_holds (in_number_range d.caller) _ k1) refl refl (tail_same 32 32 a5 b5 this.1) in
    let definer = object_same c.definer d.definer (32 ∷ a3) (32 ∷ b3) (first_holds (in_number_range c.definer) _ h2) (first_holds (in_number_range d.definer) _ k2) refl refl (tail_same 32 32 a4 b4 caller.1) in
    let programmer = object_same c.programmer d.programmer (32 ∷ a2) (32 ∷ b2) (first_holds (in_number_range c.programmer) (is_text c.verb) h3) (first_holds (in_number_range d.programmer) (is_text d.verb) k3) refl refl (tail_same 32 32 a3 b3 definer.1) in
    let verb = quoted_same c.verb d.verb (32 ∷ a1) (32 ∷ b1) (tail_same 32 32 a2 b2 programmer.1) in
    let debug = flag_same c.debug d.debug (32 ∷ r) (32 ∷ s) (tail_same 32 32 a1 b1 verb.1) in
    λ i. record { this = this.0 i; caller = caller.0 i; definer = definer.0 i; programmer = programmer.0 i; verb = verb.0 i; debug = debug.0 i }

number_in : Datum → ℤ → ℤ
number_in (object o) z = o
number_in _ z = z

text_in : Datum → Text
text_in (text t) = t
text_in _ = []

start_in : List Datum → Start → Start
start_in vs s =
    record {
      argstr = text_in (get_or vs 0 (object s.dobj));
      dobj = number_in (get_or vs 1 (text [])) s.dobj;
      dobjstr = text_in (get_or vs 2 (object s.dobj));
      prepstr = text_in (get_or vs 3 (object s.dobj));
      iobj = number_in (get_or vs 4 (text [])) s.dobj;
      iobjstr = text_in (get_or vs 5 (object s.dobj));
    }

start_told : (a b : Start) → start_values a ≡ start_values b → a ≡ b
unfolding number_in text_in start_in
start_told a b e = ap (λ vs. start_in vs a) e

-- ---- a frame

start_line_open : (f : Frame) → IsTrue (not (closes (fields (codes "start" ∷ list_literal (start_values f.start) ∷ []))))
start_line_open f = not_closed_behind (codes "start {" ++ data_text (of_list (start_values f.start))) (codes "}") refl

pub frame_same : (f g : Frame) (r s : List Text) → IsTrue (frame_holds f) → IsTrue (frame_holds g) → IsTrue (stops is_value_line r) → IsTrue (stops is_value_line s)
    → frame_lines f ++ r ≡ frame_lines g ++ s → (frame_key f ≡ frame_key g) × (r ≡ s)
frame_same f g r s h k fr fs e =
    let h1 = second_holds (call_holds f.call) _ h in
    let k1 = second_holds (call_holds g.call) _ k in
    let h2 = second_holds (list_all is_value (start_values f.start)) _ h1 in
    let k2 = second_holds (list_all is_value (start_values g.start)) _ k1 in
    let h3 = second_holds (is_tree f.program) _ h2 in
    let k3 = second_holds (is_tree g.program) _ k2 in
    let hv = values_of f.variables (first_holds (list_all (λ (q : Text × Datum). is_text q.0 && is_value q.1) f.variables) (list_all piece_holds f.pieces) h3) in
    let kv = values_of g.variables (first_holds (list_all (λ (q : Text × Datum). is_text q.0 && is_value q.1) g.variables) (list_all piece_holds g.pieces) k3) in
    let hp = second_holds (list_all (λ (q : Text × Datum). is_text q.0 && is_value q.1) f.variables) (list_all piece_holds f.pieces) h3 in
    let kp = second_holds (list_all (λ (q : Text × Datum). is_text q.0 && is_value q.1) g.variables) (list_all piece_holds g.pieces) k3 in
    let vf : List Datum = values_held f.pieces in
    let vg : List Datum = values_held g.pieces in
    let held_f : List Text = counted (codes "held") (length vf) ∷ literal_lines vf in
    let held_g : List Text = counted (codes "held") (length vg) ∷ literal_lines vg in
    let behind_f : List Text = fields (codes "start" ∷ list_literal (start_values f.start) ∷ []) ∷ fields (codes "place" ∷ path (part_numbers f.pieces) ∷ []) ∷ counted (codes "vars") (length f.variables) ∷ (variable_lines f.variables ++ held_f) in
    let behind_g : List Text = fields (codes "start" ∷ list_literal (start_values g.start) ∷ []) ∷ fields (codes "place" ∷ path (part_numbers g.pieces) ∷ []) ∷ counted (codes "vars") (length g.variables) ∷ (variable_lines g.variables ++ held_g) in
    let call = call_told f.call g.call (decimal (length (canonical_lines f.program))) (decimal (length (canonical_lines g.program))) (first_holds (call_holds f.call) _ h) (first_holds (call_holds g.call) _ k)
    (append_cancel_left (codes "frame ") _ _ (first_same _ _ ((canonical_lines f.program ++ behind_f) ++ r) ((canonical_lines g.program ++ behind_g) ++ s) e)) in
    let code = runs_read_once closes (canonical_lines f.program) (canonical_lines g.program) (behind_f ++ r) (behind_g ++ s) (code_closed f.program) (code_closed g.program) (start_line_open f) (start_line_open g)
    (sym (append_assoc (canonical_lines f.program) behind_f r) ∙ rest_same _ _ ((canonical_lines f.program ++ behind_f) ++ r) ((canonical_lines g.program ++ behind_g) ++ s) e ∙ append_assoc (canonical_lines g.program) behind_g s) in
    let program = one_tree f.program g.program (first_holds (is_tree f.program) _ h2) (first_holds (is_tree g.program) _ k2) code.0 in
    let start = start_told f.start g.start (whole_list (start_values f.start) (start_values g.start) (first_holds (list_all is_value (start_values f.start)) _ h1) (first_holds (list_all is_value (start_values g.start)) _ k1)
    (append_cancel_left (codes "start ") _ _ (ap (λ ts. get_or ts 0 []) code.1))) in
    let parts = parts_told f.pieces g.pieces hp kp (append_cancel_left (codes "place ") _ _ (ap (λ ts. get_or ts 1 []) code.1)) in
    let later : (variable_lines f.variables ++ held_f) ++ r ≡ (variable_lines g.variables ++ held_g) ++ s = ap (λ ts. drop 3 ts) code.1 in
    let named = runs_read_once is_variable_line (variable_lines f.variables) (variable_lines g.variables) (held_f ++ r) (held_g ++ s) (variables_are_lines f.variables) (variables_are_lines g.variables) refl refl
    (sym (append_assoc (variable_lines f.variables) held_f r) ∙ later ∙ append_assoc (variable_lines g.variables) held_g s) in
    let variables = variables_read_once f.variables g.variables hv kv named.0 in
    let values = runs_read_once is_value_line (literal_lines vf) (literal_lines vg) r s (value_lines vf (held_are_values f.pieces hp)) (value_lines vg (held_are_values g.pieces kp)) fr fs
    (rest_same _ _ (literal_lines vf ++ r) (literal_lines vg ++ s) named.1) in
    let held = held_read_once vf vg (held_are_values f.pieces hp) (held_are_values g.pieces kp) values.0 in
    (λ i. record { call = call i; start = start i; program = program i; variables = variables i; parts = parts i; held = held i }, values.1)
