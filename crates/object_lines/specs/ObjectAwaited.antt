-- What is awaited of the lines of an object, and of their fields.
use Rattle.std.specs.Prelude.{◌||◌, Bool, List, [], ◌∷◌, map, take, drop, codes}
use Rattle.spec_value.specs.Datum.{Text, same_text}
use Rattle.spec_faults.specs.Plain.{is_one_of, is_number, are_flags}
use Rattle.spec_faults.specs.Literals.{is_literal, any}
use Rattle.spec_faults.specs.Forms.{word, other, object_forms}
use Rattle.spec_faults.specs.Awaited.{Awaited, one}

-- behind its number come the name, the owner, the parent and the location
abbrev pub naming_awaited : List Awaited
naming_awaited = map one (take 4 (drop 1 object_forms))

abbrev pub flags_awaited : List Awaited
flags_awaited = one (word (codes "flags") ∷ other (are_flags 6) ∷ []) ∷ []

-- the header and the lists of an object
abbrev pub family_awaited : List Awaited
family_awaited = map one (drop 1 object_forms)

abbrev pub is_content : Text → Bool
is_content t = same_text t (codes "clear") || is_literal any t

abbrev pub is_object_part : Text → Bool
is_object_part t = is_one_of (codes "none" ∷ codes "any" ∷ codes "this" ∷ []) t

abbrev pub is_preposition : Text → Bool
is_preposition t = is_one_of (codes "none" ∷ codes "any" ∷ []) t || is_number 0 14 t
