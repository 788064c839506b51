-- Properties that come and go: a world that stood stands afterwards.
use Rattle.std.proofs.Common.{◌≡◌, Bool, true, false, not, ◌&&◌, List, [], ◌∷◌, Option, Some, None, refl, sym, ap, ◌∙◌, is_none}
use Rattle.std.specs.Prelude.{codes}
use Rattle.spec_value.specs.Datum.{Datum, object, text, list, no_data, item, invalid_argument}
use Rattle.spec_value.proofs.Entries.{first_holds, second_holds}
use Rattle.spec_world.specs.World.{Object, object_at}
use Rattle.spec_world.specs.Inherit.{slot_at}
use Rattle.spec_world.specs.Permissions.{change_members, change_owner, may}
use Rattle.spec_world.specs.Families.{is_below}
use Rattle.spec_world.specs.Members.{property_added}
use Rattle.spec_world.proofs.PropertyChanges.{none_passes}
use Rattle.spec_moo.specs.Natives.Rows.{is_valid}
use Rattle.spec_moo.specs.Natives.Properties.{are_bits, defines_it, defined_below, is_new_name, slot_with, add_property_row, delete_property_row}
use Rattle.rules.specs.Standing.{IsStanding}
use Rattle.rules.proofs.ObjectsStand.{property_added_stands, property_deleted_stands}
use Rattle.builtins_view.proofs.Keeping.{Keeping, tested, there}

is_not : (b : Bool) → not b ≡ true → b ≡ false
is_not true h = cc
is_not false h = refl

nothing : {X : Type 0} (m : Option X) → is_none m ≡ true → m ≡ None
nothing None k = refl
nothing (Some x) k = cc

pub add_property_keeps : (args : List Datum) → Keeping (λ s c. add_property_row s c args)
add_property_keeps (object o ∷ text p ∷ v ∷ list (item (object owner) (item (text b) no_data)) ∷ []) s c h =
    there s invalid_argument (object_at s.world o) _ h (λ x e.
    tested (may s.world c.call.programmer (change_members o)) _ _ h (λ k1.
    tested (may s.world c.call.programmer (change_owner c.call.programmer owner)) _ _ h (λ k2.
    tested (is_new_name s o p && are_bits (codes "rwc") b && is_valid s owner) _ _ h (λ k3. go x e (first_holds (is_new_name s o p) _ (first_holds _ (is_valid s owner) k3))))))
  where
    go : (x : Object) → object_at s.world o ≡ Some x → is_new_name s o p ≡ true → IsStanding (property_added s.world o p (slot_with v owner b))
    go x e k =
        let above : slot_at s.world o p ≡ None = nothing _ (second_holds _ (is_none (slot_at s.world o p)) (first_holds _ (not (defined_below s.world o p)) k)) in
        let below : defined_below s.world o p ≡ false = is_not _ (second_holds _ (not (defined_below s.world o p)) k) in
        property_added_stands s.world o p (slot_with v owner b) x e h refl above
        (λ q y is under. sym (ap (λ a. a && defines_it y p) under) ∙ none_passes (λ d z. is_below s.world o d && defines_it z p) s.world.objects below q y is)
add_property_keeps _ s c h = h

pub delete_property_keeps : (args : List Datum) → Keeping (λ s c. delete_property_row s c args)
delete_property_keeps (object o ∷ text p ∷ []) s c h =
    there s invalid_argument (object_at s.world o) _ h (λ x e.
    tested (defines_it x p) _ _ h (λ k1.
    tested (may s.world c.call.programmer (change_members o)) _ _ h (λ k2.
    property_deleted_stands s.world o p x e h k1)))
delete_property_keeps _ s c h = h
