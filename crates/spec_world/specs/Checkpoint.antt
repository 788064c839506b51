-- The text of a world, as it is kept in a file (in the manner of the Programmer's Manual's database files): one text a world.
use Rattle.std.specs.Prelude.{ℕ, ℤ, pos, Bool, true, false, List, [], ◌∷◌, ◌++◌, length, Option, Some, None, codes}
use Rattle.std.specs.Fmt.{decimal, signed_decimal}
use Rattle.spec_value.specs.Datum.{Datum, integer, object, text, list, of_list, Text}
use Rattle.spec_value.specs.Literal.{literal}
use Rattle.spec_value.specs.Table.{Named}
use Rattle.spec_program.specs.Construct.{Piece}
use Rattle.spec_program.specs.Spelling.{canonical_lines}
use Rattle.spec_world.specs.World.{World, Object, Slot, Verb, ObjectPart, no_object, any_object, this_object, PrepositionPart, no_preposition, any_preposition, preposition_set, Call, Start, Frame, NativeName, move_native, create_native, recycle_native, eval_native, Entry, frame_entry, native_entry, Waiting, forked, timed, idle, reading_on, Task, Programming, Link, object_at}
use Rattle.spec_world.specs.Inherit.{ancestors, slot_at}

-- ---- words of a line

abbrev pub spaced_by : Text → List Text → Text
spaced_by first [] = first
spaced_by first (t ∷ ts) = first ++ (32 ∷ spaced_by t ts)

-- fields stand one space apart
abbrev pub fields : List Text → Text
fields [] = []
fields (t ∷ ts) = spaced_by t ts

abbrev pub counted : Text → ℕ → Text
counted word n = fields (word ∷ decimal n ∷ [])

abbrev pub object_text : ℤ → Text
object_text o = 35 ∷ signed_decimal o

abbrev pub object_list : List ℤ → List Datum
object_list [] = []
object_list (o ∷ os) = object o ∷ object_list os

abbrev pub text_list : List Text → List Datum
text_list [] = []
text_list (t ∷ ts) = text t ∷ text_list ts

abbrev pub list_literal : List Datum → Text
list_literal vs = literal (list (of_list vs))

abbrev pub flag : Bool → Text
flag true = codes "1"
flag false = codes "0"

abbrev pub letter_if : Text → Bool → Text
letter_if t true = t
letter_if t false = []

-- letters of those that are set, or a dash
abbrev pub or_dash : Text → Text
or_dash [] = codes "-"
or_dash (c ∷ t) = c ∷ t

-- ---- links

abbrev pub lines_held : Option (List Text) → Datum
lines_held None = integer (pos 0)
lines_held (Some ts) = list (of_list (text_list ts))

-- what a link is programming: 0, or the object, the verb and the lines so far, 0 once they are too long
abbrev pub programming_held : Option Programming → Datum
programming_held None = integer (pos 0)
programming_held (Some g) = list (of_list (object g.object ∷ text g.verb ∷ lines_held g.lines ∷ []))

abbrev pub link_lines : List (ℤ × Link) → List Text
link_lines [] = []
link_lines (e ∷ es) =
    fields (codes "link" ∷ signed_decimal e.0 ∷ object_text (e.1).person ∷ literal (programming_held (e.1).programming) ∷ []) ∷ link_lines es

-- ---- slots: one's own first, then the parent's, and so on, in the order of definition

abbrev pub slot_bits : Slot → Text
slot_bits s = or_dash (letter_if (codes "r") s.readable ++ (letter_if (codes "w") s.writable ++ letter_if (codes "c") s.changeable))

abbrev pub content_text : Option Datum → Text
content_text None = codes "clear"
content_text (Some v) = literal v

abbrev pub slot_line : Option Slot → List Text
slot_line None = []
slot_line (Some s) = fields (codes "slot" ∷ object_text s.owner ∷ slot_bits s ∷ content_text s.content ∷ []) ∷ []

abbrev pub slots_named : World → ℤ → List Text → List Text
slots_named w o [] = []
slots_named w o (t ∷ ts) = slot_line (slot_at w o t) ++ slots_named w o ts

abbrev pub names_defined : Option Object → List Text
names_defined None = []
names_defined (Some x) = x.defines

abbrev pub slots_along : World → ℤ → List ℤ → List Text
slots_along w o [] = []
slots_along w o (p ∷ ps) = slots_named w o (names_defined (object_at w p)) ++ slots_along w o ps

abbrev pub slot_lines : World → ℤ → List Text
slot_lines w o = let ts : List Text = slots_along w o (ancestors w o) in counted (codes "slots") (length ts) ∷ ts

-- ---- verbs

abbrev pub verb_bits : Verb → Text
verb_bits v =
    or_dash (letter_if (codes "r") v.readable ++ (letter_if (codes "w") v.writable ++ (letter_if (codes "x") v.callable ++ letter_if (codes "d") v.debug)))

abbrev pub part_text : ObjectPart → Text
part_text no_object = codes "none"
part_text any_object = codes "any"
part_text this_object = codes "this"

abbrev pub preposition_number : PrepositionPart → Text
preposition_number no_preposition = codes "none"
preposition_number any_preposition = codes "any"
preposition_number (preposition_set n) = decimal n

abbrev pub verb_line : Verb → ℕ → Text
verb_line v n =
    fields (codes "verb" ∷ literal (text v.names) ∷ object_text v.owner ∷ verb_bits v ∷ part_text v.direct ∷ preposition_number v.preposition ∷ part_text v.indirect ∷ decimal n ∷ [])

abbrev pub each_verb : List Verb → List Text
each_verb [] = []
each_verb (v ∷ vs) = (verb_line v (length (canonical_lines v.program)) ∷ canonical_lines v.program) ++ each_verb vs

abbrev pub verb_lines : List Verb → List Text
verb_lines vs = counted (codes "verbs") (length vs) ∷ each_verb vs

-- ---- objects

abbrev pub flags_text : Object → Text
flags_text x =
    flag x.header.is_player ++ (flag x.header.is_programmer ++ (flag x.header.is_wizard ++ (flag x.header.readable ++ (flag x.header.writable ++ flag x.header.fertile))))

abbrev pub object_lines : World → ℤ → Object → List Text
object_lines w o x =
    counted_object o
    ∷ fields (codes "name" ∷ literal (text x.header.name) ∷ [])
    ∷ fields (codes "owner" ∷ object_text x.header.owner ∷ [])
    ∷ fields (codes "parent" ∷ object_text x.header.parent ∷ [])
    ∷ fields (codes "location" ∷ object_text x.header.location ∷ [])
    ∷ fields (codes "children" ∷ list_literal (object_list x.children) ∷ [])
    ∷ fields (codes "contents" ∷ list_literal (object_list x.contents) ∷ [])
    ∷ fields (codes "flags" ∷ flags_text x ∷ [])
    ∷ fields (codes "defines" ∷ list_literal (text_list x.defines) ∷ [])
    ∷ (slot_lines w o ++ verb_lines x.verbs)
  where
    counted_object : ℤ → Text
    counted_object n = fields (codes "object" ∷ signed_decimal n ∷ [])

abbrev pub each_object : World → List (ℤ × Object) → List Text
each_object w [] = []
each_object w (e ∷ es) = object_lines w e.0 e.1 ++ each_object w es

-- ---- frames: the place is the path to the call at which it stands, and 0 at the beginning

abbrev pub with_dots : Text → List Text → Text
with_dots first [] = first
with_dots first (t ∷ ts) = first ++ (46 ∷ with_dots t ts)

abbrev pub path : List Text → Text
path [] = codes "0"
path (t ∷ ts) = with_dots t ts

-- the outermost piece first
abbrev pub part_numbers : List Piece → List Text
part_numbers [] = []
part_numbers (p ∷ ps) = part_numbers ps ++ decimal p.part ∷ []

abbrev pub values_held : List Piece → List Datum
values_held [] = []
values_held (p ∷ ps) = values_held ps ++ p.held

abbrev pub literal_lines : List Datum → List Text
literal_lines [] = []
literal_lines (v ∷ vs) = literal v ∷ literal_lines vs

abbrev pub variable_lines : Named Datum → List Text
variable_lines [] = []
variable_lines (e ∷ es) = fields (codes "var" ∷ literal (text e.0) ∷ literal e.1 ∷ []) ∷ variable_lines es

abbrev pub start_values : Start → List Datum
start_values s = text s.argstr ∷ object s.dobj ∷ text s.dobjstr ∷ text s.prepstr ∷ object s.iobj ∷ text s.iobjstr ∷ []

abbrev pub call_line : Call → ℕ → Text
call_line c n =
    fields
    (codes "frame" ∷ object_text c.this ∷ object_text c.caller ∷ object_text c.definer ∷ object_text c.programmer ∷ literal (text c.verb) ∷ flag c.debug
    ∷ decimal n ∷ [])

abbrev pub frame_lines : Frame → List Text
frame_lines f =
    call_line f.call (length (canonical_lines f.program))
    ∷ (canonical_lines f.program
    ++ (fields (codes "start" ∷ list_literal (start_values f.start) ∷ [])
    ∷ fields (codes "place" ∷ path (part_numbers f.pieces) ∷ [])
    ∷ counted (codes "vars") (length f.variables)
    ∷ (variable_lines f.variables ++ (counted (codes "held") (length (values_held f.pieces)) ∷ literal_lines (values_held f.pieces)))))

abbrev pub native_text : NativeName → Text
native_text move_native = codes "move"
native_text create_native = codes "create"
native_text recycle_native = codes "recycle"
native_text eval_native = codes "eval"

abbrev pub entry_lines : Entry → List Text
entry_lines (frame_entry f) = frame_lines f
entry_lines (native_entry n) = fields (codes "native" ∷ native_text n.name ∷ decimal n.stage ∷ list_literal n.arguments ∷ []) ∷ []

-- the outermost first
abbrev pub each_entry : List Entry → List Text
each_entry [] = []
each_entry (e ∷ es) = each_entry es ++ entry_lines e

-- ---- tasks

abbrev pub waiting_fields : Waiting → List Text
waiting_fields (forked due) = codes "fork" ∷ decimal due ∷ []
waiting_fields (timed due v) = codes "wait" ∷ decimal due ∷ literal v ∷ []
waiting_fields idle = codes "idle" ∷ []
waiting_fields (reading_on c) = codes "read" ∷ signed_decimal c ∷ []

abbrev pub task_lines : ℤ → Task → List Text
task_lines i t =
    fields (codes "task" ∷ signed_decimal i ∷ waiting_fields t.waiting)
    ∷ fields (codes "player" ∷ object_text t.player ∷ [])
    ∷ counted (codes "entries") (length t.entries)
    ∷ each_entry t.entries

abbrev pub each_task : List (ℤ × Task) → List Text
each_task [] = []
each_task (e ∷ es) = task_lines e.0 e.1 ++ each_task es

-- ---- the whole

abbrev pub world_lines : World → List Text
world_lines w =
    codes "MOO-CHECKPOINT 1"
    ∷ counted (codes "next") w.next
    ∷ fields (codes "greatest" ∷ signed_decimal w.greatest ∷ [])
    ∷ fields (codes "ending" ∷ flag w.ending ∷ [])
    ∷ counted (codes "links") (length w.links)
    ∷ (link_lines w.links
    ++ (counted (codes "objects") (length w.objects)
    ∷ (each_object w w.objects ++ (counted (codes "tasks") (length w.tasks) ∷ (each_task w.tasks ++ codes "end" ∷ [])))))

-- each line ends with its line end
abbrev pub with_line_ends : List Text → Text
with_line_ends [] = []
with_line_ends (t ∷ ts) = t ++ (10 ∷ with_line_ends ts)

unfoldable pub checkpoint_text : World → Text
checkpoint_text w = with_line_ends (world_lines w)

-- ---- what can be wrong with a text that is no world's, and in which line

pub data CheckpointFault : Type 0 where
  header ended line number value code world frame : CheckpointFault
