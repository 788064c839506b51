-- The lines of parts of objects, and what is read from them.
use Rattle.std.specs.Prelude.{◌≡◌, ℕ, List, [], ◌∷◌, ◌++◌, codes}
use Rattle.std.specs.Fmt.{decimal}
use Rattle.spec_value.specs.Datum.{Text, text}
use Rattle.spec_value.specs.Literal.{literal}
use Rattle.spec_world.specs.World.{Header, Object, Slot, Verb}
use Rattle.spec_world.specs.Checkpoint.{fields, object_text, object_list, text_list, list_literal, flags_text, slot_bits, content_text, verb_bits, part_text, preposition_number}
use Rattle.line_fields.specs.Bits.{bits_of_verb}
use Rattle.view.specs.Parts.{object_part_of, preposition_part_of}
use Rattle.view.specs.declared.object.Lists.{Lists}
use Rattle.object_lines.specs.declared.header.Naming.{Naming}
use Rattle.object_lines.specs.declared.verb.Head.{Head}

-- ---- headers

abbrev pub naming_lines : Header → List Text
naming_lines h =
    fields (codes "name" ∷ literal (text h.name) ∷ [])
    ∷ fields (codes "owner" ∷ object_text h.owner ∷ [])
    ∷ fields (codes "parent" ∷ object_text h.parent ∷ [])
    ∷ fields (codes "location" ∷ object_text h.location ∷ [])
    ∷ []

-- what the first lines of a header tell
pub record IsNaming (n : Naming) (h : Header) : Type 0 where
  pub name : n.name ≡ h.name
  pub owner : n.owner ≡ h.owner
  pub parent : n.parent ≡ h.parent
  pub location : n.location ≡ h.location

-- the header and the lists of an object
abbrev pub family_lines : Object → List Text
family_lines x =
    naming_lines x.header
    ++ (fields (codes "children" ∷ list_literal (object_list x.children) ∷ [])
    ∷ fields (codes "contents" ∷ list_literal (object_list x.contents) ∷ [])
    ∷ fields (codes "flags" ∷ flags_text x ∷ [])
    ∷ fields (codes "defines" ∷ list_literal (text_list x.defines) ∷ [])
    ∷ [])

pub record AreLists (l : Lists) (x : Object) : Type 0 where
  pub children : l.children.items ≡ x.children
  pub contents : l.contents.items ≡ x.contents
  pub defines : l.defines.items ≡ x.defines

-- ---- slots

abbrev pub one_slot_line : Slot → Text
one_slot_line s = fields (codes "slot" ∷ object_text s.owner ∷ slot_bits s ∷ content_text s.content ∷ [])

abbrev pub each_slot : List Slot → List Text
each_slot [] = []
each_slot (s ∷ ss) = one_slot_line s ∷ each_slot ss

-- ---- verbs

-- the fields of a verb's own line
abbrev pub verb_fields : Verb → ℕ → List Text
verb_fields v n =
    codes "verb" ∷ literal (text v.names) ∷ object_text v.owner ∷ verb_bits v ∷ part_text v.direct ∷ preposition_number v.preposition ∷ part_text v.indirect ∷ decimal n ∷ []

-- what a verb's own line tells, with how many lines its program has
pub record IsHead (h : Head) (v : Verb) (n : ℕ) : Type 0 where
  pub names : h.names ≡ v.names
  pub owner : h.owner ≡ v.owner
  pub bits : h.bits ≡ bits_of_verb v
  pub direct : object_part_of h.direct ≡ v.direct
  pub preposition : preposition_part_of h.preposition ≡ v.preposition
  pub indirect : object_part_of h.indirect ≡ v.indirect
  pub lines : h.lines ≡ n
