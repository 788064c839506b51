-- What stands in each line of a world's text.
use Rattle.std.specs.Prelude.{ℕ, ◌==◌, ◌&&◌, ◌||◌, pos, neg_ℤ, Bool, true, false, not, List, [], ◌∷◌, length, Option, Some, None, codes}
use Rattle.std.specs.List.{list_all}
use Rattle.spec_value.specs.Datum.{Text, same_text}
use Rattle.spec_world.specs.Checkpoint as fault
use Rattle.spec_world.specs.Checkpoint.{CheckpointFault}
use Rattle.spec_faults.specs.Cutting.{is_filled}
use Rattle.spec_faults.specs.Plain as plain
use Rattle.spec_faults.specs.Literals.{is_literal, any, is_string, is_object_value, is_list_of, is_programming, is_start}

-- ---- fields

-- what is wanted of a field: it is a word; it passes a test, and is no literal; it is a literal that passes one
pub data Wanted : Type 0 where
  word : Text → Wanted
  other : (Text → Bool) → Wanted
  value : (Text → Bool) → Wanted

abbrev pub is_other_word : Wanted → Text → Bool
is_other_word (word w) t = not (same_text w t)
is_other_word _ t = false

abbrev pub is_misspelt : Wanted → Text → Bool
is_misspelt (other test) t = not (test t)
is_misspelt _ t = false

abbrev pub is_no_value : Wanted → Text → Bool
is_no_value (value test) t = not (test t)
is_no_value _ t = false

-- one of the fields is so
abbrev pub one_is : (Wanted → Text → Bool) → List Wanted → List Text → Bool
one_is so (w ∷ ws) (t ∷ ts) = so w t || one_is so ws ts
one_is so _ _ = false

-- its words, as many fields, and none of them empty
abbrev pub has_form : List Wanted → List Text → Bool
has_form ws ts = length ts == length ws && (list_all is_filled ts && not (one_is is_other_word ws ts))

-- they have the form or not, one is misspelt, one is no such value
abbrev pub least : Bool → Bool → Bool → Option CheckpointFault
least false misspelt no_value = Some fault.line
least true true no_value = Some fault.number
least true false true = Some fault.value
least true false false = None

-- the least fault of fields of which these are wanted
abbrev pub fault_of : List Wanted → List Text → Option CheckpointFault
fault_of ws ts = least (has_form ws ts) (one_is is_misspelt ws ts) (one_is is_no_value ws ts)

abbrev pub or_else : Bool → List Wanted → List Wanted → List Wanted
or_else true ws others = ws
or_else false ws others = others

-- the first that the fields have, or none
abbrev pub form_among : List (List Wanted) → List Text → List Wanted
form_among [] ts = []
form_among (ws ∷ more) ts = or_else (has_form ws ts) ws (form_among more ts)

-- ---- lines

abbrev pub number : ℕ → ℕ → Wanted
number least most = other (plain.is_number least most)

abbrev pub how_many : Wanted
how_many = number 0 9223372036854775807

abbrev pub object_number : Wanted
object_number = other plain.is_object

abbrev pub connection : Wanted
connection = other (plain.is_integer (pos 1) (pos 999999))

abbrev pub flag : Wanted
flag = other plain.is_flag

abbrev pub moment : Wanted
moment = number 0 2147483647

abbrev pub literal : Wanted
literal = value (is_literal any)

abbrev pub string : Wanted
string = value (is_literal is_string)

abbrev pub objects : Wanted
objects = value (is_literal (is_list_of is_object_value))

abbrev pub strings : Wanted
strings = value (is_literal (is_list_of is_string))

abbrev pub object_part : Wanted
object_part = other (plain.is_one_of (codes "none" ∷ codes "any" ∷ codes "this" ∷ []))

abbrev pub preposition : Wanted
preposition = other (λ t. plain.is_one_of (codes "none" ∷ codes "any" ∷ []) t || plain.is_number 0 14 t)

abbrev pub content : Wanted
content = value (λ t. same_text t (codes "clear") || is_literal any t)

-- a word, and so many of something behind it
abbrev pub counted_form : Text → List Wanted
counted_form w = word w ∷ how_many ∷ []

abbrev pub next_form : List Wanted
next_form = word (codes "next") ∷ number 1 33554432 ∷ []

abbrev pub greatest_form : List Wanted
greatest_form = word (codes "greatest") ∷ other (plain.is_integer (neg_ℤ (pos 1)) (pos 999999)) ∷ []

abbrev pub ending_form : List Wanted
ending_form = word (codes "ending") ∷ flag ∷ []

abbrev pub link_form : List Wanted
link_form = word (codes "link") ∷ connection ∷ object_number ∷ value (is_literal is_programming) ∷ []

-- those of an object up to its slots
abbrev pub object_forms : List (List Wanted)
object_forms =
    (word (codes "object") ∷ other (plain.is_integer (pos 0) (pos 999999)) ∷ [])
    ∷ (word (codes "name") ∷ string ∷ [])
    ∷ (word (codes "owner") ∷ object_number ∷ [])
    ∷ (word (codes "parent") ∷ object_number ∷ [])
    ∷ (word (codes "location") ∷ object_number ∷ [])
    ∷ (word (codes "children") ∷ objects ∷ [])
    ∷ (word (codes "contents") ∷ objects ∷ [])
    ∷ (word (codes "flags") ∷ other (plain.are_flags 6) ∷ [])
    ∷ (word (codes "defines") ∷ strings ∷ [])
    ∷ []

abbrev pub slot_form : List Wanted
slot_form = word (codes "slot") ∷ object_number ∷ other (plain.are_bits (codes "rwc")) ∷ content ∷ []

abbrev pub verb_form : List Wanted
verb_form =
    word (codes "verb") ∷ string ∷ object_number ∷ other (plain.are_bits (codes "rwxd")) ∷ object_part ∷ preposition ∷ object_part ∷ how_many ∷ []

abbrev pub task_id : Wanted
task_id = number 1 2147483584

-- of a task its own line, by how it waits
abbrev pub task_forms : List (List Wanted)
task_forms =
    (word (codes "task") ∷ task_id ∷ word (codes "fork") ∷ moment ∷ [])
    ∷ (word (codes "task") ∷ task_id ∷ word (codes "wait") ∷ moment ∷ literal ∷ [])
    ∷ (word (codes "task") ∷ task_id ∷ word (codes "idle") ∷ [])
    ∷ (word (codes "task") ∷ task_id ∷ word (codes "read") ∷ connection ∷ [])
    ∷ []

abbrev pub player_form : List Wanted
player_form = word (codes "player") ∷ object_number ∷ []

abbrev pub frame_form : List Wanted
frame_form =
    word (codes "frame") ∷ object_number ∷ object_number ∷ object_number ∷ object_number ∷ string ∷ flag ∷ how_many ∷ []

-- its arguments are of any kind as far as this goes
abbrev pub native_form : List Wanted
native_form =
    word (codes "native") ∷ other (plain.is_one_of (codes "move" ∷ codes "create" ∷ codes "recycle" ∷ codes "eval" ∷ [])) ∷ number 1 3 ∷ literal ∷ []

abbrev pub start_form : List Wanted
start_form = word (codes "start") ∷ value (is_literal is_start) ∷ []

abbrev pub place_form : List Wanted
place_form = word (codes "place") ∷ other plain.is_path ∷ []

abbrev pub variable_form : List Wanted
variable_form = word (codes "var") ∷ string ∷ literal ∷ []

-- a value that is held, of any kind as far as this goes
abbrev pub held_form : List Wanted
held_form = literal ∷ []

abbrev pub end_form : List Wanted
end_form = word (codes "end") ∷ []
