-- Properties read and written by programs (Programmer's Manual, "Getting and Setting the Values of Properties"), with those that every object has.
use Rattle.std.specs.Prelude.{ℤ, List, [], ◌∷◌, Bool, if◌then◌else◌, Option, Some, None, codes}
use Rattle.spec_value.specs.Datum.{Datum, object, text, list, of_list, is_true, Text, same_text, fold_case, ErrorCode, type_mismatch, permission_denied, property_not_found, invalid_indirection}
use Rattle.spec_value.specs.Answer.{Answer, gives, raises, truth}
use Rattle.spec_world.specs.World.{World, Object, Slot, object_at, with_object}
use Rattle.spec_world.specs.Permissions as act
use Rattle.spec_world.specs.Permissions.{Act, write_name, write_bits, write_standing, write_place, may}
use Rattle.spec_world.specs.Inherit.{slot_at, property_value, with_slot}

-- ---- the properties that every object has

pub data BuiltInProperty : Type 0 where
  own_name own_owner own_location own_contents programmer_flag wizard_flag r_bit w_bit f_bit : BuiltInProperty

abbrev pub property_rows : List (Text × BuiltInProperty)
property_rows =
    (codes "name", own_name) ∷ (codes "owner", own_owner) ∷ (codes "location", own_location) ∷ (codes "contents", own_contents)
    ∷ (codes "programmer", programmer_flag) ∷ (codes "wizard", wizard_flag) ∷ (codes "r", r_bit) ∷ (codes "w", w_bit) ∷ (codes "f", f_bit) ∷ []

-- what stands beside a name in a table
unfoldable pub row_of : {X : Type 0} → List (Text × X) → Text → Option X
row_of [] name = None
row_of (r ∷ rs) name = if same_text r.0 name then Some r.1 else row_of rs name

-- they hide an object's own property of the same name
abbrev pub built_in : Text → Option BuiltInProperty
built_in p = row_of property_rows (fold_case p)

abbrev pub objects_listed : List ℤ → List Datum
objects_listed [] = []
objects_listed (o ∷ os) = object o ∷ objects_listed os

-- all may read them
abbrev pub built_in_value : Object → BuiltInProperty → Datum
built_in_value x own_name = text x.header.name
built_in_value x own_owner = object x.header.owner
built_in_value x own_location = object x.header.location
built_in_value x own_contents = list (of_list (objects_listed x.contents))
built_in_value x programmer_flag = truth x.header.is_programmer
built_in_value x wizard_flag = truth x.header.is_wizard
built_in_value x r_bit = truth x.header.readable
built_in_value x w_bit = truth x.header.writable
built_in_value x f_bit = truth x.header.fertile

-- ---- who may

-- what it is to write each of them
abbrev pub writing : ℤ → BuiltInProperty → Act
writing o own_name = write_name o
writing o own_owner = write_standing o
writing o programmer_flag = write_standing o
writing o wizard_flag = write_standing o
writing o own_location = write_place o
writing o own_contents = write_place o
writing o r_bit = write_bits o
writing o w_bit = write_bits o
writing o f_bit = write_bits o

-- ---- reading

abbrev pub found : Option Datum → Answer
found None = raises property_not_found
found (Some v) = gives v

abbrev pub read_slot : World → ℤ → ℤ → Text → Option Slot → Answer
read_slot w who o p None = raises property_not_found
read_slot w who o p (Some s) = if may w who (act.read_slot o p) then found (property_value w o p) else raises permission_denied

abbrev pub read_valid : World → ℤ → ℤ → Text → Object → Option BuiltInProperty → Answer
read_valid w who o p x (Some b) = gives (built_in_value x b)
read_valid w who o p x None = read_slot w who o p (slot_at w o p)

abbrev pub read_object : World → ℤ → ℤ → Text → Option Object → Answer
read_object w who o p None = raises invalid_indirection
read_object w who o p (Some x) = read_valid w who o p x (built_in p)

-- of an object, and of a name that is a text
unfoldable pub read : World → ℤ → Datum → Datum → Answer
read w who (object o) (text p) = read_object w who o p (object_at w o)
read w who _ _ = raises type_mismatch

-- ---- writing

pub data Written : Type 0 where
  wrote : World → Written
  refused : ErrorCode → Written

-- a name wants a text and an owner an object; flags and bits take any value by its truth
abbrev pub with_built_in : Object → BuiltInProperty → Datum → Option Object
with_built_in x own_name (text t) = Some (record x { header = record (x.header) { name = t } })
with_built_in x own_name v = None
with_built_in x own_owner (object o) = Some (record x { header = record (x.header) { owner = o } })
with_built_in x own_owner v = None
with_built_in x programmer_flag v = Some (record x { header = record (x.header) { is_programmer = is_true v } })
with_built_in x wizard_flag v = Some (record x { header = record (x.header) { is_wizard = is_true v } })
with_built_in x r_bit v = Some (record x { header = record (x.header) { readable = is_true v } })
with_built_in x w_bit v = Some (record x { header = record (x.header) { writable = is_true v } })
with_built_in x f_bit v = Some (record x { header = record (x.header) { fertile = is_true v } })
with_built_in x b v = Some x

abbrev pub write_built_in : World → ℤ → Bool → Option Object → Written
write_built_in w o allowed None = refused type_mismatch
write_built_in w o allowed (Some x) = if allowed then wrote (with_object w o x) else refused permission_denied

abbrev pub write_slot : World → ℤ → ℤ → Text → Datum → Option Slot → Written
write_slot w who o p v None = refused property_not_found
write_slot w who o p v (Some s) = if may w who (act.write_slot o p) then wrote (with_slot w o p (record s { content = Some v })) else refused permission_denied

abbrev pub write_valid : World → ℤ → ℤ → Text → Datum → Object → Option BuiltInProperty → Written
write_valid w who o p v x (Some b) = write_built_in w o (may w who (writing o b)) (with_built_in x b v)
write_valid w who o p v x None = write_slot w who o p v (slot_at w o p)

abbrev pub write_object : World → ℤ → ℤ → Text → Datum → Option Object → Written
write_object w who o p v None = refused invalid_indirection
write_object w who o p v (Some x) = write_valid w who o p v x (built_in p)

unfoldable pub write : World → ℤ → Datum → Datum → Datum → Written
write w who (object o) (text p) v = write_object w who o p v (object_at w o)
write w who _ _ v = refused type_mismatch
