-- Where a world stands, the functions that change properties and verbs leave it so.
use Rattle.std.proofs.Common.{◌≡◌, ℕ, ℤ, ◌&&◌, ◌++◌, List, [], ◌∷◌, refl}
use Rattle.std.specs.Prelude.{codes}
use Rattle.spec_value.specs.Datum.{Datum, object, text, list, no_data, item, property_not_found, verb_not_found, invalid_argument}
use Rattle.spec_world.specs.World.{World, Verb, object_at}
use Rattle.spec_world.specs.Inherit.{slot_at}
use Rattle.spec_world.specs.Permissions.{in_place, change_members, change_owner, write_slot, write_verb, may}
use Rattle.spec_world.specs.Members.{verb_added, verb_deleted, verb_changed, with_verb, without_verb}
use Rattle.spec_moo.specs.Scene.{Scene}
use Rattle.spec_moo.specs.NativeEffect.{NativeEffect}
use Rattle.spec_moo.specs.Natives.Rows.{is_valid}
use Rattle.spec_moo.specs.Natives.Properties.{are_bits, with_slot_bits, set_property_info_row}
use Rattle.spec_moo.specs.Natives.Verbs.{verb_place, if_verb, with_info, info_fits, set_verb_info_row, specifier, with_specifier, set_verb_args_row, new_verb, add_verb_row, delete_verb_row}
use Rattle.rules.specs.Standing.{IsStanding}
use Rattle.rules.proofs.Keeping.{filled_slot}
use Rattle.rules.proofs.InheritStanding.{attributes_stand, content_stands}
use Rattle.builtins_view.proofs.Keeping.{LeavesWell, Keeping, tested, there}

-- ---- properties

pub set_property_info_keeps : (args : List Datum) → Keeping (λ s c. set_property_info_row s c args)
set_property_info_keeps (object o ∷ text p ∷ list (item (object owner) (item (text b) no_data)) ∷ []) s c h =
    there s invalid_argument (object_at s.world o) _ h (λ x e. there s property_not_found (slot_at s.world o p) _ h (λ t d.
    tested (may s.world c.call.programmer (write_slot o p)) _ _ h (λ k1.
    tested (may s.world c.call.programmer (change_owner t.owner owner)) _ _ h (λ k2.
    tested (are_bits (codes "rwc") b && is_valid s owner) _ _ h (λ k3.
    content_stands s.world o p t (with_slot_bits t owner b) h d (λ y is k. filled_slot s.world o p y t h.objects is d k))))))
set_property_info_keeps _ s c h = h

-- ---- verbs

pub changed_verb : (w : World) (o : ℤ) (n : ℕ) (f : Verb → Verb) → IsStanding w → IsStanding (verb_changed w o n f)
unfolding verb_changed
changed_verb w o n f h =
    attributes_stand w o (λ x. record x { verbs = with_verb x.verbs n f }) h (λ x. record { parent = refl; location = refl; children = refl; contents = refl; defines = refl; slots = refl }) (λ x. refl)

added_verb : (w : World) (o : ℤ) (v : Verb) → IsStanding w → IsStanding (verb_added w o v)
unfolding verb_added
added_verb w o v h =
    attributes_stand w o (λ x. record x { verbs = x.verbs ++ v ∷ [] }) h (λ x. record { parent = refl; location = refl; children = refl; contents = refl; defines = refl; slots = refl }) (λ x. refl)

deleted_verb : (w : World) (o : ℤ) (n : ℕ) → IsStanding w → IsStanding (verb_deleted w o n)
unfolding verb_deleted
deleted_verb w o n h =
    attributes_stand w o (λ x. record x { verbs = without_verb x.verbs n }) h (λ x. record { parent = refl; location = refl; children = refl; contents = refl; defines = refl; slots = refl }) (λ x. refl)

pub verb_there : (s : Scene) (o : ℤ) (d : Datum) (f : ℕ → Verb → NativeEffect) → IsStanding s.world → ((n : ℕ) (v : Verb) → LeavesWell (f n v)) → LeavesWell (if_verb s o d f)
verb_there s o d f h more =
    there s invalid_argument (object_at s.world o) _ h (λ x e. there s verb_not_found (verb_place x.verbs d) _ h (λ n k. there s verb_not_found (in_place x.verbs n) (f n) h (λ v l. more n v)))

pub set_verb_info_keeps : (args : List Datum) → Keeping (λ s c. set_verb_info_row s c args)
set_verb_info_keeps (object o ∷ d ∷ list (item (object owner) (item (text b) (item (text names) no_data))) ∷ []) s c h =
    verb_there s o d _ h (λ n v.
    tested (may s.world c.call.programmer (write_verb o n)) _ _ h (λ k1.
    tested (may s.world c.call.programmer (change_owner v.owner owner)) _ _ h (λ k2.
    tested (info_fits s owner b names) _ _ h (λ k3. changed_verb s.world o n (with_info owner b names) h))))
set_verb_info_keeps _ s c h = h

pub set_verb_args_keeps : (args : List Datum) → Keeping (λ s c. set_verb_args_row s c args)
set_verb_args_keeps (object o ∷ d ∷ list (item (text t) (item (text p) (item (text i) no_data))) ∷ []) s c h =
    verb_there s o d _ h (λ n v.
    tested (may s.world c.call.programmer (write_verb o n)) _ _ h (λ k1. there s invalid_argument (specifier t p i) _ h (λ a e. changed_verb s.world o n (with_specifier a) h)))
set_verb_args_keeps _ s c h = h

pub add_verb_keeps : (args : List Datum) → Keeping (λ s c. add_verb_row s c args)
add_verb_keeps (object o ∷ list (item (object owner) (item (text b) (item (text names) no_data))) ∷ list (item (text t) (item (text p) (item (text i) no_data))) ∷ []) s c h =
    there s invalid_argument (object_at s.world o) _ h (λ x e.
    tested (may s.world c.call.programmer (change_members o)) _ _ h (λ k1.
    tested (may s.world c.call.programmer (change_owner c.call.programmer owner)) _ _ h (λ k2.
    tested (info_fits s owner b names) _ _ h (λ k3. there s invalid_argument (specifier t p i) _ h (λ a d. added_verb s.world o (new_verb a owner b names) h)))))
add_verb_keeps _ s c h = h

pub delete_verb_keeps : (args : List Datum) → Keeping (λ s c. delete_verb_row s c args)
delete_verb_keeps (object o ∷ d ∷ []) s c h = verb_there s o d _ h (λ n v. tested (may s.world c.call.programmer (change_members o)) _ _ h (λ k. deleted_verb s.world o n h))
delete_verb_keeps _ s c h = h
