-- The lines of an object, one by one, as they are awaited.
use Rattle.std.proofs.Common.{pos, [], ◌∷◌, codes}
use Rattle.spec_faults.specs.Plain.{is_integer}
use Rattle.spec_faults.specs.Forms.{word, other, object_number, string, strings, objects}
use Rattle.spec_faults.specs.Awaited.{Awaited, one, counted, each_slot, each_verb}
use Rattle.object_lines.proofs.RowFaults.{flags_form}

abbrev pub object_line : Awaited
object_line = one (word (codes "object") ∷ other (is_integer (pos 0) (pos 999999)) ∷ [])

abbrev pub name_line : Awaited
name_line = one (word (codes "name") ∷ string ∷ [])

abbrev pub owner_line : Awaited
owner_line = one (word (codes "owner") ∷ object_number ∷ [])

abbrev pub parent_line : Awaited
parent_line = one (word (codes "parent") ∷ object_number ∷ [])

abbrev pub location_line : Awaited
location_line = one (word (codes "location") ∷ object_number ∷ [])

abbrev pub children_line : Awaited
children_line = one (word (codes "children") ∷ objects ∷ [])

abbrev pub contents_line : Awaited
contents_line = one (word (codes "contents") ∷ objects ∷ [])

abbrev pub flags_line : Awaited
flags_line = one flags_form

abbrev pub defines_line : Awaited
defines_line = one (word (codes "defines") ∷ strings ∷ [])

abbrev pub slots_line : Awaited
slots_line = counted (codes "slots") each_slot

abbrev pub verbs_line : Awaited
verbs_line = counted (codes "verbs") each_verb
