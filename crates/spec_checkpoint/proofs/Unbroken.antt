-- No line end stands within a line of a world of values.
use Rattle.std.proofs.Common.{◌≡◌, ℕ, ℤ, List, [], ◌∷◌, ◌++◌, length, IsTrue, Bool, true, false, ◌&&◌, refl, codes, Option, Some, None}
use Rattle.std.specs.List.{list_all}
use Rattle.std.specs.Fmt.{decimal, signed_decimal}
use Rattle.spec_value.specs.Datum.{Text, is_text, Datum, text, in_number_range, is_value, list, of_list}
use Rattle.spec_value.specs.Literal.{literal}
use Rattle.spec_value.specs.Table.{Numbered, Named}
use Rattle.spec_value.proofs.Entries.{first_holds, second_holds, both_hold, each_entry as each_found}
use Rattle.spec_program.specs.Trees.{is_tree}
use Rattle.spec_program.specs.Construct.{Piece}
use Rattle.spec_program.specs.Spelling.{canonical_lines}
use Rattle.spec_world.specs.World.{World, Slot, ObjectPart, no_object, any_object, this_object, PrepositionPart, no_preposition, any_preposition, preposition_set, Verb, Object, Call, Frame, NativeName, move_native, create_native, recycle_native, eval_native, Entry, frame_entry, native_entry, Waiting, forked, timed, idle, reading_on, Task, Link, object_at}
use Rattle.spec_world.specs.Inherit.{ancestors, slot_of, slot_at}
use Rattle.spec_world.specs.Checkpoint.{fields, counted, object_text, object_list, text_list, list_literal, flag, flags_text, programming_held, link_lines, slot_bits, content_text, slot_line, slots_named, names_defined, slots_along, slot_lines, verb_bits, part_text, preposition_number, verb_line, each_verb, verb_lines, object_lines, each_object, with_dots, path, part_numbers, values_held, literal_lines, variable_lines, start_values, call_line, frame_lines, native_text, entry_lines, each_entry, waiting_fields, task_lines, each_task}
use Rattle.spec_checkpoint.specs.Lines.{is_line, are_lines}
use Rattle.spec_checkpoint.specs.Records.{link_holds}
use Rattle.spec_checkpoint.specs.Holding.{is_number, content_holds, slot_holds, preposition_holds, verb_holds, header_holds, object_holds, numbered_object_holds, call_holds, piece_holds, frame_holds, entry_holds, waiting_holds, task_holds, numbered_task_holds}
use Rattle.spec_checkpoint.specs.OneWorld.{ValuesHaveLines}
use Rattle.spec_checkpoint.proofs.Fields.{values_hold, objects_hold, texts_hold, three_bits, four_bits}
use Rattle.spec_checkpoint.proofs.SlotRecords.{found_holds, named_holds}
use Rattle.spec_checkpoint.proofs.FrameRecords.{held_are_values}
use Rattle.spec_checkpoint.proofs.ValuesUnbroken.{line_then, lines_then, line_on, decimal_line, signed_line, quoted_line, value_line}
use Rattle.spec_checkpoint.proofs.CodeUnbroken.{code_is_lines}

-- ---- fields

flag_line : (b : Bool) → IsTrue (is_line (flag b))
flag_line true = refl
flag_line false = refl

list_line : (vs : List Datum) → IsTrue (list_all is_value vs) → IsTrue (is_line (list_literal vs))
list_line vs h = value_line (list (of_list vs)) (values_hold vs h)

content_line : (o : Option Datum) → IsTrue (content_holds o) → IsTrue (is_line (content_text o))
content_line None h = refl
content_line (Some v) h = value_line v h

part_line : (p : ObjectPart) → IsTrue (is_line (part_text p))
part_line no_object = refl
part_line any_object = refl
part_line this_object = refl

preposition_line : (p : PrepositionPart) → IsTrue (is_line (preposition_number p))
preposition_line no_preposition = refl
preposition_line any_preposition = refl
preposition_line (preposition_set n) = decimal_line n

native_line : (n : NativeName) → IsTrue (is_line (native_text n))
native_line move_native = refl
native_line create_native = refl
native_line recycle_native = refl
native_line eval_native = refl

-- a field, a space, and what stands behind it
field : (t u : Text) → IsTrue (is_line t) → IsTrue (is_line u) → IsTrue (is_line (t ++ (32 ∷ u)))
field t u h k = line_then t (32 ∷ u) h k

-- ---- links

link_line : (e : ℤ × Link) → IsTrue (link_holds e)
    → IsTrue (is_line (signed_decimal e.0 ++ (32 ∷ (object_text (e.1).person ++ (32 ∷ literal (programming_held (e.1).programming))))))
link_line e h =
    let held : Text = literal (programming_held (e.1).programming) in
    field (signed_decimal e.0) (object_text (e.1).person ++ (32 ∷ held)) (signed_line e.0)
    (field (signed_decimal (e.1).person) held (signed_line (e.1).person)
    (value_line (programming_held (e.1).programming)
    (second_holds (in_number_range (e.1).person) (is_value (programming_held (e.1).programming)) (second_holds (in_number_range e.0) (in_number_range (e.1).person && is_value (programming_held (e.1).programming)) h))))

links_line : (es : Numbered Link) → IsTrue (list_all link_holds es) → IsTrue (are_lines (link_lines es))
links_line [] h = refl
links_line (e ∷ es) h = both_hold _ (are_lines (link_lines es)) (link_line e (first_holds (link_holds e) (list_all link_holds es) h)) (links_line es (second_holds (link_holds e) (list_all link_holds es) h))

-- ---- slots

slot_is_line : (m : Option Slot) → IsTrue (found_holds m) → IsTrue (are_lines (slot_line m))
slot_is_line None h = refl
slot_is_line (Some s) h =
    let content : Text = content_text s.content in
    both_hold _ true
    (field (signed_decimal s.owner) (slot_bits s ++ (32 ∷ content)) (signed_line s.owner)
    (field (slot_bits s) content (three_bits s.readable s.writable s.changeable).4 (content_line s.content (second_holds (in_number_range s.owner) (content_holds s.content) h)))) refl

module _ (w : World) (h : IsTrue (list_all numbered_object_holds w.objects)) where
  slot_found : (o : ℤ) (t : Text) → IsTrue (found_holds (slot_at w o t))
  slot_found o t = go (object_at w o) refl
    where
      go : (m : Option Object) → object_at w o ≡ m → IsTrue (found_holds (slot_of m t))
      go None is = refl
      go (Some x) is =
          let hx = second_holds (in_number_range o) (object_holds x) (each_found (λ k z. in_number_range k && object_holds z) w.objects h o x is) in
          let rest = second_holds (list_all is_text x.defines) _ (second_holds (list_all in_number_range x.contents) _ (second_holds (list_all in_number_range x.children) _ (second_holds (header_holds x.header) _ hx))) in
          named_holds x.slots (first_holds (list_all (λ (e : Text × Slot). slot_holds e.1) x.slots) (list_all verb_holds x.verbs) rest) _

  named_line : (o : ℤ) (ts : List Text) → IsTrue (are_lines (slots_named w o ts))
  named_line o [] = refl
  named_line o (t ∷ ts) = lines_then (slot_line (slot_at w o t)) (slots_named w o ts) (slot_is_line (slot_at w o t) (slot_found o t)) (named_line o ts)

  along_line : (o : ℤ) (ps : List ℤ) → IsTrue (are_lines (slots_along w o ps))
  along_line o [] = refl
  along_line o (p ∷ ps) = lines_then (slots_named w o (names_defined (object_at w p))) (slots_along w o ps) (named_line o (names_defined (object_at w p))) (along_line o ps)

-- ---- verbs

verb_is_line : (v : Verb) (n : ℕ) → IsTrue (verb_holds v) → IsTrue (is_line (verb_line v n))
verb_is_line v n h =
    let l1 : Text = part_text v.indirect ++ (32 ∷ decimal n) in
    let l2 : Text = preposition_number v.preposition ++ (32 ∷ l1) in
    let l3 : Text = part_text v.direct ++ (32 ∷ l2) in
    let l4 : Text = verb_bits v ++ (32 ∷ l3) in
    let l5 : Text = object_text v.owner ++ (32 ∷ l4) in
    field (literal (text v.names)) l5 (quoted_line v.names (first_holds (is_text v.names) _ h))
    (field (signed_decimal v.owner) l4 (signed_line v.owner)
    (field (verb_bits v) l3 (four_bits v.readable v.writable v.callable v.debug).5
    (field (part_text v.direct) l2 (part_line v.direct)
    (field (preposition_number v.preposition) l1 (preposition_line v.preposition) (field (part_text v.indirect) (decimal n) (part_line v.indirect) (decimal_line n))))))

verbs_line : (vs : List Verb) → IsTrue (list_all verb_holds vs) → IsTrue (are_lines (each_verb vs))
verbs_line [] h = refl
verbs_line (v ∷ vs) h =
    let hv = first_holds (verb_holds v) (list_all verb_holds vs) h in
    let tree = second_holds (preposition_holds v.preposition) (is_tree v.program) (second_holds (in_number_range v.owner) _ (second_holds (is_text v.names) _ hv)) in
    line_on (verb_line v (length (canonical_lines v.program))) (canonical_lines v.program ++ each_verb vs) (verb_is_line v (length (canonical_lines v.program)) hv)
    (lines_then (canonical_lines v.program) (each_verb vs) (code_is_lines v.program tree) (verbs_line vs (second_holds (verb_holds v) (list_all verb_holds vs) h)))

-- ---- objects

counted_line : (n : ℕ) (ts : List Text) → IsTrue (are_lines ts) → IsTrue (are_lines (decimal n ∷ ts))
counted_line n ts = line_on (decimal n) ts (decimal_line n)

flags_line : (x : Object) → IsTrue (is_line (flags_text x))
flags_line x =
    let f6 : Text = flag x.header.fertile in
    let f5 : Text = flag x.header.writable ++ f6 in
    let f4 : Text = flag x.header.readable ++ f5 in
    let f3 : Text = flag x.header.is_wizard ++ f4 in
    let f2 : Text = flag x.header.is_programmer ++ f3 in
    line_then (flag x.header.is_player) f2 (flag_line x.header.is_player)
    (line_then (flag x.header.is_programmer) f3 (flag_line x.header.is_programmer)
    (line_then (flag x.header.is_wizard) f4 (flag_line x.header.is_wizard)
    (line_then (flag x.header.readable) f5 (flag_line x.header.readable) (line_then (flag x.header.writable) f6 (flag_line x.header.writable) (flag_line x.header.fertile)))))

object_line : (w : World) (o : ℤ) (x : Object) → IsTrue (list_all numbered_object_holds w.objects) → IsTrue (object_holds x) → IsTrue (are_lines (object_lines w o x))
object_line w o x all h =
    let h1 = second_holds (header_holds x.header) _ h in
    let h2 = second_holds (list_all in_number_range x.children) _ h1 in
    let h3 = second_holds (list_all in_number_range x.contents) _ h2 in
    let h4 = second_holds (list_all is_text x.defines) _ h3 in
    let children = list_line (object_list x.children) (objects_hold x.children (first_holds (list_all in_number_range x.children) _ h1)) in
    let contents = list_line (object_list x.contents) (objects_hold x.contents (first_holds (list_all in_number_range x.contents) _ h2)) in
    let defines = list_line (text_list x.defines) (texts_hold x.defines (first_holds (list_all is_text x.defines) _ h3)) in
    let slots : List Text = slots_along w o (ancestors w o) in
    let later = lines_then (slot_lines w o) (verb_lines x.verbs) (counted_line (length slots) slots (along_line w all o (ancestors w o)))
    (counted_line (length x.verbs) (each_verb x.verbs) (verbs_line x.verbs (second_holds (list_all (λ (e : Text × Slot). slot_holds e.1) x.slots) (list_all verb_holds x.verbs) h4))) in
    let name = quoted_line x.header.name (first_holds (is_text x.header.name) _ (first_holds (header_holds x.header) _ h)) in
    both_hold _ _ (signed_line o)
    (both_hold _ _ name
    (both_hold _ _ (signed_line x.header.owner)
    (both_hold _ _ (signed_line x.header.parent) (both_hold _ _ (signed_line x.header.location) (both_hold _ _ children (both_hold _ _ contents (both_hold _ _ (flags_line x) (both_hold _ _ defines later))))))))

objects_line : (w : World) (es : Numbered Object) → IsTrue (list_all numbered_object_holds w.objects) → IsTrue (list_all numbered_object_holds es) → IsTrue (are_lines (each_object w es))
objects_line w [] all h = refl
objects_line w (e ∷ es) all h =
    lines_then (object_lines w e.0 e.1) (each_object w es) (object_line w e.0 e.1 all (second_holds (in_number_range e.0) (object_holds e.1) (first_holds (numbered_object_holds e) (list_all numbered_object_holds es) h)))
    (objects_line w es all (second_holds (numbered_object_holds e) (list_all numbered_object_holds es) h))

-- ---- frames

parts_line : (ps : List Piece) → IsTrue (are_lines (part_numbers ps))
parts_line [] = refl
parts_line (p ∷ ps) = lines_then (part_numbers ps) (decimal p.part ∷ []) (parts_line ps) (line_on (decimal p.part) [] (decimal_line p.part) refl)

dots_line : (t : Text) (ts : List Text) → IsTrue (is_line t) → IsTrue (are_lines ts) → IsTrue (is_line (with_dots t ts))
dots_line t [] h k = h
dots_line t (u ∷ us) h k = line_then t (46 ∷ with_dots u us) h (dots_line u us (first_holds (is_line u) (are_lines us) k) (second_holds (is_line u) (are_lines us) k))

path_line : (ts : List Text) → IsTrue (are_lines ts) → IsTrue (is_line (path ts))
path_line [] h = refl
path_line (t ∷ ts) h = dots_line t ts (first_holds (is_line t) (are_lines ts) h) (second_holds (is_line t) (are_lines ts) h)

values_line : (vs : List Datum) → IsTrue (list_all is_value vs) → IsTrue (are_lines (literal_lines vs))
values_line [] h = refl
values_line (v ∷ vs) h = line_on (literal v) (literal_lines vs) (value_line v (first_holds (is_value v) (list_all is_value vs) h)) (values_line vs (second_holds (is_value v) (list_all is_value vs) h))

variables_line : (es : Named Datum) → IsTrue (list_all (λ e. is_text e.0 && is_value e.1) es) → IsTrue (are_lines (variable_lines es))
variables_line [] h = refl
variables_line (e ∷ es) h =
    let one = first_holds (is_text e.0 && is_value e.1) (list_all (λ d. is_text d.0 && is_value d.1) es) h in
    both_hold _ (are_lines (variable_lines es)) (field (literal (text e.0)) (literal e.1) (quoted_line e.0 (first_holds (is_text e.0) (is_value e.1) one)) (value_line e.1 (second_holds (is_text e.0) (is_value e.1) one)))
    (variables_line es (second_holds (is_text e.0 && is_value e.1) (list_all (λ d. is_text d.0 && is_value d.1) es) h))

call_is_line : (c : Call) (n : ℕ) → IsTrue (call_holds c) → IsTrue (is_line (call_line c n))
call_is_line c n h =
    let l1 : Text = flag c.debug ++ (32 ∷ decimal n) in
    let l2 : Text = literal (text c.verb) ++ (32 ∷ l1) in
    let l3 : Text = object_text c.programmer ++ (32 ∷ l2) in
    let l4 : Text = object_text c.definer ++ (32 ∷ l3) in
    let l5 : Text = object_text c.caller ++ (32 ∷ l4) in
    let verb = second_holds (in_number_range c.programmer) (is_text c.verb) (second_holds (in_number_range c.definer) _ (second_holds (in_number_range c.caller) _ (second_holds (in_number_range c.this) _ h))) in
    field (signed_decimal c.this) l5 (signed_line c.this)
    (field (signed_decimal c.caller) l4 (signed_line c.caller)
    (field (signed_decimal c.definer) l3 (signed_line c.definer)
    (field (signed_decimal c.programmer) l2 (signed_line c.programmer) (field (literal (text c.verb)) l1 (quoted_line c.verb verb) (field (flag c.debug) (decimal n) (flag_line c.debug) (decimal_line n))))))

frame_line : (f : Frame) → IsTrue (frame_holds f) → IsTrue (are_lines (frame_lines f))
frame_line f h =
    let h1 = second_holds (call_holds f.call) _ h in
    let h2 = second_holds (list_all is_value (start_values f.start)) _ h1 in
    let h3 = second_holds (is_tree f.program) _ h2 in
    let hv = first_holds (list_all (λ (q : Text × Datum). is_text q.0 && is_value q.1) f.variables) (list_all piece_holds f.pieces) h3 in
    let hp = second_holds (list_all (λ (q : Text × Datum). is_text q.0 && is_value q.1) f.variables) (list_all piece_holds f.pieces) h3 in
    let vs : List Datum = values_held f.pieces in
    let held : List Text = counted (codes "held") (length vs) ∷ literal_lines vs in
    let named : List Text = variable_lines f.variables ++ held in
    let later : List Text = fields (codes "start" ∷ list_literal (start_values f.start) ∷ []) ∷ fields (codes "place" ∷ path (part_numbers f.pieces) ∷ []) ∷ counted (codes "vars") (length f.variables) ∷ named in
    line_on (call_line f.call (length (canonical_lines f.program))) (canonical_lines f.program ++ later) (call_is_line f.call (length (canonical_lines f.program)) (first_holds (call_holds f.call) _ h))
    (lines_then (canonical_lines f.program) later (code_is_lines f.program (first_holds (is_tree f.program) _ h2))
    (both_hold _ _ (list_line (start_values f.start) (first_holds (list_all is_value (start_values f.start)) _ h1))
    (both_hold _ _ (path_line (part_numbers f.pieces) (parts_line f.pieces))
    (counted_line (length f.variables) named
    (lines_then (variable_lines f.variables) held (variables_line f.variables hv) (counted_line (length vs) (literal_lines vs) (values_line vs (held_are_values f.pieces hp))))))))

entry_line : (e : Entry) → IsTrue (entry_holds e) → IsTrue (are_lines (entry_lines e))
entry_line (frame_entry f) h = frame_line f h
entry_line (native_entry n) h =
    both_hold _ true
    (field (native_text n.name) (decimal n.stage ++ (32 ∷ list_literal n.arguments)) (native_line n.name)
    (field (decimal n.stage) (list_literal n.arguments) (decimal_line n.stage) (list_line n.arguments (second_holds (is_number n.stage) (list_all is_value n.arguments) h)))) refl

entries_line : (es : List Entry) → IsTrue (list_all entry_holds es) → IsTrue (are_lines (each_entry es))
entries_line [] h = refl
entries_line (e ∷ es) h =
    lines_then (each_entry es) (entry_lines e) (entries_line es (second_holds (entry_holds e) (list_all entry_holds es) h)) (entry_line e (first_holds (entry_holds e) (list_all entry_holds es) h))

-- ---- tasks

head_line : (i : ℤ) (x : Waiting) → IsTrue (waiting_holds x) → IsTrue (is_line (fields (codes "task" ∷ signed_decimal i ∷ waiting_fields x)))
head_line i (forked due) h = field (signed_decimal i) (codes "fork " ++ decimal due) (signed_line i) (decimal_line due)
head_line i (timed due v) h =
    field (signed_decimal i) (codes "wait " ++ (decimal due ++ (32 ∷ literal v))) (signed_line i) (field (decimal due) (literal v) (decimal_line due) (value_line v (second_holds (is_number due) (is_value v) h)))
head_line i idle h = field (signed_decimal i) (codes "idle") (signed_line i) refl
head_line i (reading_on c) h = field (signed_decimal i) (codes "read " ++ signed_decimal c) (signed_line i) (signed_line c)

task_line : (i : ℤ) (t : Task) → IsTrue (task_holds t) → IsTrue (are_lines (task_lines i t))
task_line i t h =
    let h1 = second_holds (in_number_range t.player) _ h in
    line_on (fields (codes "task" ∷ signed_decimal i ∷ waiting_fields t.waiting)) (fields (codes "player" ∷ object_text t.player ∷ []) ∷ counted (codes "entries") (length t.entries) ∷ each_entry t.entries)
    (head_line i t.waiting (first_holds (waiting_holds t.waiting) (list_all entry_holds t.entries) h1))
    (both_hold _ _ (signed_line t.player) (counted_line (length t.entries) (each_entry t.entries) (entries_line t.entries (second_holds (waiting_holds t.waiting) (list_all entry_holds t.entries) h1))))

tasks_line : (es : Numbered Task) → IsTrue (list_all numbered_task_holds es) → IsTrue (are_lines (each_task es))
tasks_line [] h = refl
tasks_line (e ∷ es) h =
    lines_then (task_lines e.0 e.1) (each_task es) (task_line e.0 e.1 (second_holds (in_number_range e.0) (task_holds e.1) (first_holds (numbered_task_holds e) (list_all numbered_task_holds es) h)))
    (tasks_line es (second_holds (numbered_task_holds e) (list_all numbered_task_holds es) h))

-- ---- the whole

pub values_have_lines : ValuesHaveLines
values_have_lines w h =
    let h2 = second_holds (in_number_range w.greatest) _ (second_holds (is_number w.next) _ h) in
    let h3 = second_holds (list_all link_holds w.links) _ h2 in
    let objects = first_holds (list_all numbered_object_holds w.objects) (list_all numbered_task_holds w.tasks) h3 in
    let tasks : List Text = each_task w.tasks ++ codes "end" ∷ [] in
    let from_objects : List Text = each_object w w.objects ++ (counted (codes "tasks") (length w.tasks) ∷ tasks) in
    both_hold _ _ (decimal_line w.next)
    (both_hold _ _ (signed_line w.greatest)
    (both_hold _ _ (flag_line w.ending)
    (counted_line (length w.links) (link_lines w.links ++ (counted (codes "objects") (length w.objects) ∷ from_objects))
    (lines_then (link_lines w.links) (counted (codes "objects") (length w.objects) ∷ from_objects) (links_line w.links (first_holds (list_all link_holds w.links) _ h2))
    (counted_line (length w.objects) from_objects
    (lines_then (each_object w w.objects) (counted (codes "tasks") (length w.tasks) ∷ tasks) (objects_line w w.objects objects objects)
    (counted_line (length w.tasks) tasks (lines_then (each_task w.tasks) (codes "end" ∷ []) (tasks_line w.tasks (second_holds (list_all numbered_object_holds w.objects) (list_all numbered_task_holds w.tasks) h3)) refl))))))))
