-- A world in which a property was written stands as it did.
use Rattle.std.proofs.Common.{◌≡◌, ℤ, Bool, true, false, Result, Ok, Err, OnOk, Option, Some, None, refl, sym, ap, subst, IsTrue, is_some, if◌then◌else◌}
use Rattle.std.specs.Prelude.{IfOk}
use Rattle.spec_value.specs.Datum.{Datum, Text, integer, object, text, error, list, is_true, ErrorCode, permission_denied}
use Rattle.spec_world.specs.World.{World, Object, Slot, object_at, with_object}
use Rattle.spec_world.specs.Inherit.{slot_at, with_slot}
use Rattle.spec_world.specs.Permissions as act
use Rattle.spec_world.specs.Permissions.{may}
use Rattle.spec_world.specs.Families.{change_at}
use Rattle.spec_world.specs.ObjectLaws.{SameRelations}
use Rattle.spec_moo.specs.Properties.{BuiltInProperty, own_name, own_owner, own_location, own_contents, programmer_flag, wizard_flag, r_bit, w_bit, f_bit, built_in, with_built_in, Written, wrote, refused, write_built_in, write_slot, write_valid, write_object, write, writing}
use Rattle.moo_value.specs.declared.error.MooError.{MooError}
use Rattle.view.specs.Law.{Goes}
use Rattle.rules.specs.Lines.{AreAgreeing}
use Rattle.rules.specs.Standing.{IsStanding}
use Rattle.rules.proofs.InheritStanding.{attributes_stand, content_stands}
use Rattle.rules.specs.Writing.{IsWritten, IsSimplyWritten}

filled_so : (w : World) (o : ℤ) (p : Text) (t u : Slot) → IsStanding w → slot_at w o p ≡ Some t → IsTrue (is_some u.content) → IsStanding (with_slot w o p u)
filled_so w o p t u h found full = content_stands w o p t u h found (λ x is defined. full)

abbrev Keeps : Written → Type 0
Keeps (wrote u) = IsStanding u
Keeps (refused e) = Unit {0}

where_allowed : (b : Bool) (u : World) (e : ErrorCode) → IsStanding u → Keeps (if b then wrote u else refused e)
where_allowed true u e h = h
where_allowed false u e h = tt

built_in_keeps : (w : World) (o : ℤ) (x : Object) (b : BuiltInProperty) (v : Datum) (allowed : Bool) → IsStanding w → object_at w o ≡ Some x
    → Keeps (write_built_in w o allowed (with_built_in x b v))
built_in_keeps w o x b v allowed h is = go b v
  where
    by : (f : Object → Object) → ((y : Object) → SameRelations y (f y)) → ((y : Object) → (f y).header.is_player ≡ y.header.is_player)
        → Keeps (if allowed then wrote (with_object w o (f x)) else refused permission_denied)
    by f same players = where_allowed allowed (with_object w o (f x)) _ (subst IsStanding (ap (change_at w o f) is) (attributes_stand w o f h same players))

    go : (b : BuiltInProperty) (v : Datum) → Keeps (write_built_in w o allowed (with_built_in x b v))
    go own_name (text t) = by (λ y. record y { header = record (y.header) { name = t } }) (λ y. record { parent = refl; location = refl; children = refl; contents = refl; defines = refl; slots = refl }) (λ y. refl)
    go own_name v = tt
    go own_owner (object q) = by (λ y. record y { header = record (y.header) { owner = q } }) (λ y. record { parent = refl; location = refl; children = refl; contents = refl; defines = refl; slots = refl }) (λ y. refl)
    go own_owner v = tt
    go programmer_flag v = by (λ y. record y { header = record (y.header) { is_programmer = is_true v } }) (λ y. record { parent = refl; location = refl; children = refl; contents = refl; defines = refl; slots = refl }) (λ y. refl)
    go wizard_flag v = by (λ y. record y { header = record (y.header) { is_wizard = is_true v } }) (λ y. record { parent = refl; location = refl; children = refl; contents = refl; defines = refl; slots = refl }) (λ y. refl)
    go r_bit v = by (λ y. record y { header = record (y.header) { readable = is_true v } }) (λ y. record { parent = refl; location = refl; children = refl; contents = refl; defines = refl; slots = refl }) (λ y. refl)
    go w_bit v = by (λ y. record y { header = record (y.header) { writable = is_true v } }) (λ y. record { parent = refl; location = refl; children = refl; contents = refl; defines = refl; slots = refl }) (λ y. refl)
    go f_bit v = by (λ y. record y { header = record (y.header) { fertile = is_true v } }) (λ y. record { parent = refl; location = refl; children = refl; contents = refl; defines = refl; slots = refl }) (λ y. refl)
    go own_location v = by (λ y. y) (λ y. record { parent = refl; location = refl; children = refl; contents = refl; defines = refl; slots = refl }) (λ y. refl)
    go own_contents v = by (λ y. y) (λ y. record { parent = refl; location = refl; children = refl; contents = refl; defines = refl; slots = refl }) (λ y. refl)

write_keeps : (w : World) (who : ℤ) (x y v : Datum) → IsStanding w → Keeps (write w who x y v)
unfolding write
write_keeps w who (object o) (text p) v h = go (object_at w o) refl
  where
    on_slot : (m : Option Slot) → slot_at w o p ≡ m → Keeps (write_slot w who o p v m)
    on_slot None e = tt
    on_slot (Some t) e = where_allowed (may w who (act.write_slot o p)) _ _ (filled_so w o p t (record t { content = Some v }) h e refl)

    on_object : (x : Object) → object_at w o ≡ Some x → (b : Option BuiltInProperty) → Keeps (write_valid w who o p v x b)
    on_object x is (Some b) = built_in_keeps w o x b v (may w who (writing o b)) h is
    on_object x is None = on_slot (slot_at w o p) refl

    go : (m : Option Object) → object_at w o ≡ m → Keeps (write_object w who o p v m)
    go None e = tt
    go (Some x) e = on_object x e (built_in p)
write_keeps w who (object o) (integer n) v h = tt
write_keeps w who (object o) (object n) v h = tt
write_keeps w who (object o) (error n) v h = tt
write_keeps w who (object o) (list n) v h = tt
write_keeps w who (integer o) y v h = tt
write_keeps w who (text o) y v h = tt
write_keeps w who (error o) y v h = tt
write_keeps w who (list o) y v h = tt

pub written_well : (w u : World) (who : ℤ) (x y v : Datum) → IsStanding w → write w who x y v ≡ wrote u → IsStanding u
written_well w u who x y v h is = subst Keeps is (write_keeps w who x y v h)

-- so are all that a view then allows
pub written_known : {V A E : Type 0} (holds : V → World → Type 0) (now : V → World → World) (a b : V) (who : ℤ) (x y v : Datum) (r : Result (Result A MooError) E)
    → IfOk r (λ q. Goes holds now a b (λ before after. IsWritten before after (write before who x y v) q))
    → AreAgreeing holds now a → OnOk r (AreAgreeing holds now b)
written_known holds now a b who x y v (Err e) goes known = tt
written_known holds now a b who x y v (Ok (Ok done)) goes known = λ w is. let g = goes w is in written_well (now a w) (now b w) who x y v (known w g.0) g.1
written_known holds now a b who x y v (Ok (Err e)) goes known = λ w is. let g = goes w is in subst IsStanding (sym g.1.1) (known w g.0)

pub simply_known : {V E : Type 0} (holds : V → World → Type 0) (now : V → World → World) (a b : V) (who : ℤ) (x y v : Datum) (r : Result Bool E)
    → IfOk r (λ q. Goes holds now a b (IsSimplyWritten q who x y v)) → AreAgreeing holds now a → OnOk r (AreAgreeing holds now b)
simply_known holds now a b who x y v (Err e) goes known = tt
simply_known holds now a b who x y v (Ok true) goes known = λ w is. let g = goes w is in written_well (now a w) (now b w) who x y v (known w g.0) g.1
simply_known holds now a b who x y v (Ok false) goes known = λ w is. let g = goes w is in subst IsStanding (sym g.1) (known w g.0)
