-- What stands of a world stands after each change of its objects.
use Rattle.std.proofs.Common.{◌≡◌, ℤ, true, false, map, Some, None, refl, IsTrue, is_some}
use Rattle.std.specs.Prelude.{int_le, pos}
use Rattle.spec_value.specs.Datum.{Text, fold_case}
use Rattle.spec_world.specs.World.{World, Object, Slot, object_at}
use Rattle.spec_world.specs.Inherit.{slot_at}
use Rattle.spec_world.specs.WellFormed.{has_name}
use Rattle.spec_world.specs.Families.{next_object, is_below, clashes, created, reparented, recycled}
use Rattle.spec_world.specs.Whereabouts.{is_inside, moved}
use Rattle.spec_world.specs.Members.{property_added, property_deleted}
use Rattle.spec_world.specs.ObjectLaws.{IsPlace, Defines}
use Rattle.spec_world.proofs.ObjectsKept.{property_added_keeps, property_deleted_keeps, created_keeps, moved_keeps, reparented_keeps, recycled_keeps}
use Rattle.spec_world.proofs.WorldsKept.{IsNobodys, Rest, added_players, deleted_players, created_rest, created_players, moved_rest, moved_players, reparented_rest, reparented_players, recycled_rest, recycled_players}
use Rattle.rules.specs.Standing.{IsStanding}
use Rattle.rules.proofs.InheritStanding.{objects_stand, objects_stand_for}

added_rest : (w : World) (o : ℤ) (p : Text) (s : Slot) → Rest w (property_added w o p s)
unfolding property_added
added_rest w o p s = record { links = refl; tasks = refl; next = refl }

deleted_rest : (w : World) (o : ℤ) (p : Text) → Rest w (property_deleted w o p)
unfolding property_deleted
deleted_rest w o p = record { links = refl; tasks = refl; next = refl }

pub property_added_stands : (w : World) (o : ℤ) (p : Text) (s : Slot) (x : Object) → object_at w o ≡ Some x → IsStanding w → IsTrue (is_some s.content) → slot_at w o p ≡ None
    → ((q : ℤ) (y : Object) → object_at w q ≡ Some y → is_below w o q ≡ true → has_name (map fold_case y.defines) (fold_case p) ≡ false) → IsStanding (property_added w o p s)
property_added_stands w o p s x is h full above below =
    objects_stand w (property_added w o p s) h (property_added_keeps w o p s x is h.objects full above below) (added_rest w o p s) (added_players w o p s)

pub property_deleted_stands : (w : World) (o : ℤ) (p : Text) (x : Object) → object_at w o ≡ Some x → IsStanding w → Defines x p → IsStanding (property_deleted w o p)
property_deleted_stands w o p x is h defined =
    objects_stand w (property_deleted w o p) h (property_deleted_keeps w o p x is h.objects defined) (deleted_rest w o p) (deleted_players w o p)

pub created_stands : (w : World) (p owner : ℤ) → IsStanding w → IsTrue (int_le (next_object w) (pos 999999)) → IsPlace w p → IsStanding (created w p owner)
created_stands w p owner h room there =
    objects_stand w (created w p owner) h (created_keeps w p owner h.objects room there) (created_rest w p owner) (created_players w p owner h.objects room there)

pub moved_stands : (w : World) (what place : ℤ) (x : Object) → IsStanding w → object_at w what ≡ Some x → IsPlace w place → is_inside w what place ≡ false → IsStanding (moved w what place)
moved_stands w what place x h is there outside =
    objects_stand w (moved w what place) h (moved_keeps w what place x h.objects is there outside) (moved_rest w what place) (moved_players w what place)

pub reparented_stands : (w : World) (o p : ℤ) (x : Object) → object_at w o ≡ Some x → IsStanding w → IsPlace w p → is_below w o p ≡ false → clashes w o p ≡ false
    → IsStanding (reparented w o p)
reparented_stands w o p x is h there outside clear =
    objects_stand w (reparented w o p) h (reparented_keeps w o p x is h.objects there outside clear) (reparented_rest w o p) (reparented_players w o p)

-- an object goes that is no link's person
pub recycled_stands : (w : World) (o : ℤ) → IsStanding w → IsNobodys w o → IsStanding (recycled w o)
recycled_stands w o h nobodys =
    objects_stand_for w (recycled w o) h (recycled_keeps w o h.objects) (recycled_rest w o) (λ c k e p. recycled_players w o k.person (nobodys c k e) p)
