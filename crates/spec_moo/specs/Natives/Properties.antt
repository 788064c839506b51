-- Built-in functions over properties (Programmer's Manual, "Operations on Properties"): `properties` to `clear_property`.
use Rattle.std.specs.Prelude.{ℤ, Bool, true, false, not, ◌&&◌, ◌==◌, ◌++◌, List, [], ◌∷◌, is_none, Option, Some, None, codes}
use Rattle.std.specs.List.{list_any, list_all}
use Rattle.spec_value.specs.Datum.{Datum, object, text, list, item, no_data, Text, fold_case, property_not_found, invalid_argument}
use Rattle.spec_value.specs.Answer.{truth}
use Rattle.spec_world.specs.World.{World, Object, Slot}
use Rattle.spec_world.specs.Inherit.{slot_at, with_slot}
use Rattle.spec_world.specs.WellFormed.{folded_names, has_name}
use Rattle.spec_world.specs.Permissions.{read_slot, write_slot, list_members, change_members, change_owner}
use Rattle.spec_world.specs.Families.{is_below}
use Rattle.spec_world.specs.Members.{property_added, property_deleted}
use Rattle.spec_moo.specs.Properties.{built_in}
use Rattle.spec_moo.specs.Scene.{Scene, in_world}
use Rattle.spec_moo.specs.NativeEffect.{Caller, NativeEffect}
use Rattle.spec_moo.specs.Natives.Rows.{an_object, a_text, any_value, owner_and_bits, Row, in_group, unless, wants, if_there, may_do, if_valid, is_valid, answers_with, zero_value, list_value, of_other_kinds}

-- ---- texts of bits

-- letters of these alone, in any order
abbrev pub are_bits : Text → Text → Bool
are_bits letters t = list_all (λ c. list_any (λ d. d == c) letters) t

abbrev pub has_bit : Text → Text → Bool
has_bit letter t = list_any (λ c. list_any (λ d. d == c) letter) t

abbrev pub letter_if : Bool → Text → Text
letter_if true t = t
letter_if false t = []

abbrev pub slot_bits : Slot → Text
slot_bits s = letter_if s.readable (codes "r") ++ (letter_if s.writable (codes "w") ++ letter_if s.changeable (codes "c"))

abbrev pub with_slot_bits : Slot → ℤ → Text → Slot
with_slot_bits s owner t =
    record s { owner = owner; readable = has_bit (codes "r") t; writable = has_bit (codes "w") t; changeable = has_bit (codes "c") t }

-- ---- the names

abbrev pub as_texts : List Text → List Datum
as_texts [] = []
as_texts (t ∷ ts) = text t ∷ as_texts ts

abbrev pub properties_row : Scene → Caller → List Datum → NativeEffect
properties_row s c (object o ∷ []) = if_valid s o (λ x. unless s (may_do s c (list_members o) ∷ []) (answers_with s (list_value (as_texts x.defines))))
properties_row s c _ = of_other_kinds s

-- ---- of one slot: built-in properties have none

abbrev pub if_slot : Scene → ℤ → Text → (Slot → NativeEffect) → NativeEffect
if_slot s o p f = if_valid s o (λ x. if_there s property_not_found (slot_at s.world o p) f)

abbrev pub property_info_row : Scene → Caller → List Datum → NativeEffect
property_info_row s c (object o ∷ text p ∷ []) =
    if_slot s o p (λ t. unless s (may_do s c (read_slot o p) ∷ []) (answers_with s (list_value (object t.owner ∷ text (slot_bits t) ∷ []))))
property_info_row s c _ = of_other_kinds s

abbrev pub set_property_info_row : Scene → Caller → List Datum → NativeEffect
set_property_info_row s c (object o ∷ text p ∷ list (item (object owner) (item (text b) no_data)) ∷ []) =
    if_slot s o p (λ t.
    unless s (may_do s c (write_slot o p) ∷ may_do s c (change_owner t.owner owner) ∷ wants (are_bits (codes "rwc") b && is_valid s owner) invalid_argument ∷ [])
    (answers_with (in_world s (with_slot s.world o p (with_slot_bits t owner b))) zero_value))
set_property_info_row s c _ = of_other_kinds s

abbrev pub is_clear_property_row : Scene → Caller → List Datum → NativeEffect
is_clear_property_row s c (object o ∷ text p ∷ []) = if_slot s o p (λ t. unless s (may_do s c (read_slot o p) ∷ []) (answers_with s (truth (is_none t.content))))
is_clear_property_row s c _ = of_other_kinds s

abbrev pub defines_it : Object → Text → Bool
defines_it x p = has_name (folded_names (Some x)) (fold_case p)

-- it is never clear where it is defined
abbrev pub clear_property_row : Scene → Caller → List Datum → NativeEffect
clear_property_row s c (object o ∷ text p ∷ []) =
    if_slot s o p (λ t. if_valid s o (λ x.
    unless s (may_do s c (write_slot o p) ∷ wants (not (defines_it x p)) invalid_argument ∷ [])
    (answers_with (in_world s (with_slot s.world o p (record t { content = None }))) zero_value)))
clear_property_row s c _ = of_other_kinds s

-- ---- properties that come and go

abbrev pub is_empty : Text → Bool
is_empty [] = true
is_empty (c ∷ t) = false

-- on an object below
abbrev pub defined_below : World → ℤ → Text → Bool
defined_below w o p = list_any (λ e. is_below w o e.0 && defines_it e.1 p) w.objects

-- neither built in nor empty, nor known above or below
abbrev pub is_new_name : Scene → ℤ → Text → Bool
is_new_name s o p = not (is_empty p) && is_none (built_in p) && is_none (slot_at s.world o p) && not (defined_below s.world o p)

abbrev pub slot_with : Datum → ℤ → Text → Slot
slot_with v owner b = with_slot_bits (record { content = Some v; owner = owner; readable = false; writable = false; changeable = false }) owner b

abbrev pub add_property_row : Scene → Caller → List Datum → NativeEffect
add_property_row s c (object o ∷ text p ∷ v ∷ list (item (object owner) (item (text b) no_data)) ∷ []) =
    if_valid s o (λ x.
    unless s
    (may_do s c (change_members o) ∷ may_do s c (change_owner c.call.programmer owner)
    ∷ wants (is_new_name s o p && are_bits (codes "rwc") b && is_valid s owner) invalid_argument ∷ [])
    (answers_with (in_world s (property_added s.world o p (slot_with v owner b))) zero_value))
add_property_row s c _ = of_other_kinds s

abbrev pub delete_property_row : Scene → Caller → List Datum → NativeEffect
delete_property_row s c (object o ∷ text p ∷ []) =
    if_valid s o (λ x.
    unless s (wants (defines_it x p) property_not_found ∷ may_do s c (change_members o) ∷ [])
    (answers_with (in_world s (property_deleted s.world o p)) zero_value))
delete_property_row s c _ = of_other_kinds s

-- ---- the group

abbrev pub property_rows : List (Text × Row)
property_rows =
    (codes "properties", record { wanted = an_object ∷ []; further = []; act = properties_row })
    ∷ (codes "property_info", record { wanted = an_object ∷ a_text ∷ []; further = []; act = property_info_row })
    ∷ (codes "set_property_info", record { wanted = an_object ∷ a_text ∷ owner_and_bits ∷ []; further = []; act = set_property_info_row })
    ∷ (codes "add_property", record { wanted = an_object ∷ a_text ∷ any_value ∷ owner_and_bits ∷ []; further = []; act = add_property_row })
    ∷ (codes "delete_property", record { wanted = an_object ∷ a_text ∷ []; further = []; act = delete_property_row })
    ∷ (codes "is_clear_property", record { wanted = an_object ∷ a_text ∷ []; further = []; act = is_clear_property_row })
    ∷ (codes "clear_property", record { wanted = an_object ∷ a_text ∷ []; further = []; act = clear_property_row })
    ∷ []

abbrev pub properties : Scene → Caller → Text → List Datum → Option NativeEffect
properties s c name args = in_group property_rows s c name args
