-- Changes of objects: a world that stood stands afterwards.
use Rattle.std.proofs.Common.{◌≡◌, ◌⊎◌, inl, inr, ℤ, Bool, true, false, not, ◌&&◌, ◌||◌, List, [], ◌∷◌, Option, Some, None, refl, IsTrue, is_some, if◌then◌else◌}
use Rattle.std.specs.Ordering.{int_eq}
use Rattle.spec_value.specs.Datum.{Datum, object}
use Rattle.spec_value.proofs.Entries.{first_holds, second_holds}
use Rattle.spec_value.proofs.Same.{same_integer}
use Rattle.spec_world.specs.World.{World, Object, object_at}
use Rattle.spec_world.specs.ObjectLaws.{IsPlace}
use Rattle.spec_world.specs.Families.{nowhere, parent_of, is_below, clashes, reparented}
use Rattle.spec_world.specs.Permissions.{change_object, have_child, may}
use Rattle.spec_world.proofs.Trees.{either}
use Rattle.spec_moo.specs.Natives.Rows.{is_valid, is_valid_or_none}
use Rattle.spec_moo.specs.Natives.Objects.{chparent_row}
use Rattle.rules.specs.Standing.{IsStanding}
use Rattle.rules.proofs.ObjectsStand.{reparented_stands}
use Rattle.builtins_view.proofs.Keeping.{Keeping, tested}

pub not_so : (b : Bool) → not b ≡ true → b ≡ false
not_so true h = cc
not_so false h = refl

pub present : {X : Type 0} (m : Option X) → is_some m ≡ true → (x : X) × (m ≡ Some x)
present None h = cc
present (Some x) h = (x, refl)

pub place_of : (w : World) (p : ℤ) → (int_eq p nowhere || is_some (object_at w p)) ≡ true → IsPlace w p
place_of w p h = go (either (int_eq p nowhere) (is_some (object_at w p)) h)
  where
    go : IsTrue (int_eq p nowhere) ⊎ IsTrue (is_some (object_at w p)) → IsPlace w p
    go (inl e) = inl (same_integer p nowhere e)
    go (inr e) = inr e

pub chparent_keeps : (args : List Datum) → Keeping (λ s c. chparent_row s c args)
chparent_keeps (object o ∷ object p ∷ []) s c h =
    tested (is_valid s o && is_valid_or_none s p) _ _ h (λ k1.
    tested (may s.world c.call.programmer (change_object o) && may s.world c.call.programmer (have_child p)) _ _ h (λ k2.
    tested (not (is_below s.world o p)) _ _ h (λ k3.
    tested (not (clashes s.world o p)) _ _ h (λ k4. go (int_eq (parent_of (object_at s.world o)) p)
    (present (object_at s.world o) (first_holds (is_valid s o) _ k1)) (place_of s.world p (second_holds (is_valid s o) _ k1)) (not_so _ k3) (not_so _ k4)))))
  where
    go : (b : Bool) → (x : Object) × (object_at s.world o ≡ Some x) → IsPlace s.world p → is_below s.world o p ≡ false → clashes s.world o p ≡ false
        → IsStanding (if b then s else record s { world = reparented s.world o p }).world
    go true x at_p outside clear = h
    go false x at_p outside clear =
        reparented_stands s.world o p x.0 x.1 h at_p outside clear
chparent_keeps _ s c h = h
