-- The lines of parts of a world.
use Rattle.std.specs.Prelude.{ℤ, List, [], ◌∷◌, ◌++◌, length, codes}
use Rattle.std.specs.Fmt.{signed_decimal}
use Rattle.spec_value.specs.Datum.{Text, text, fold_case}
use Rattle.spec_value.specs.Literal.{literal}
use Rattle.spec_program.specs.Spelling.{canonical_lines}
use Rattle.spec_value.specs.Table.{named}
use Rattle.spec_world.specs.World.{Header, Link, Object, Slot, Verb}
use Rattle.spec_world.specs.Checkpoint.{fields, flag, object_text, list_literal, object_list, text_list, programming_held, slot_bits, content_text, slot_line, verb_line, verb_bits, part_text, preposition_number}

-- the line of a link
abbrev pub link_line : ℤ → Link → List Text
link_line c k = fields (codes "link" ∷ signed_decimal c ∷ object_text k.person ∷ literal (programming_held k.programming) ∷ []) ∷ []

-- the line of a slot
abbrev pub line_of_slot : Slot → Text
line_of_slot s = fields (codes "slot" ∷ object_text s.owner ∷ slot_bits s ∷ content_text s.content ∷ [])

-- the lines of those properties that an object has, by their names
abbrev pub slots_of : Object → List Text → List Text
slots_of x [] = []
slots_of x (t ∷ ts) = slot_line (named x.slots (fold_case t)) ++ slots_of x ts

-- ---- verbs

-- the line of a verb with its program
abbrev pub program_lines : Verb → List Text
program_lines v = verb_line v (length (canonical_lines v.program)) ∷ canonical_lines v.program

-- the line of a verb before the objects and the preposition that it wants
abbrev pub verb_names : Verb → Text
verb_names v = codes "verb " ++ (literal (text v.names) ++ (32 ∷ (object_text v.owner ++ (32 ∷ (verb_bits v ++ 32 ∷ [])))))

abbrev pub verb_arguments : Verb → Text
verb_arguments v = part_text v.direct ++ (32 ∷ (preposition_number v.preposition ++ (32 ∷ (part_text v.indirect ++ 32 ∷ []))))

-- ---- objects

abbrev pub flags_of : Header → Text
flags_of h =
    flag h.is_player ++ (flag h.is_programmer ++ (flag h.is_wizard ++ (flag h.readable ++ (flag h.writable ++ flag h.fertile))))

abbrev pub name_lines : ℤ → Header → List Text
name_lines o h = fields (codes "object" ∷ signed_decimal o ∷ []) ∷ fields (codes "name" ∷ literal (text h.name) ∷ []) ∷ []

abbrev pub owner_lines : Header → List Text
owner_lines h = fields (codes "owner" ∷ object_text h.owner ∷ []) ∷ fields (codes "parent" ∷ object_text h.parent ∷ []) ∷ []

abbrev pub location_lines : Header → List Text
location_lines h = fields (codes "location" ∷ object_text h.location ∷ []) ∷ []

abbrev pub family_lines : Object → List Text
family_lines x =
    fields (codes "children" ∷ list_literal (object_list x.children) ∷ [])
    ∷ fields (codes "contents" ∷ list_literal (object_list x.contents) ∷ [])
    ∷ []

abbrev pub own_lines : Object → List Text
own_lines x =
    fields (codes "flags" ∷ flags_of x.header ∷ [])
    ∷ fields (codes "defines" ∷ list_literal (text_list x.defines) ∷ [])
    ∷ []
