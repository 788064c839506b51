-- Calls whose checks have passed, and what is left of them.
use Rattle.std.proofs.Common.{◌≡◌, ℤ, Bool, true, false, not, ◌&&◌, List, [], ◌∷◌, map, is_none, is_some, Option, Some, None, refl, sym, ap, ◌∙◌, subst, if◌then◌else◌}
use Rattle.std.specs.Prelude.{option_map, codes}
use Rattle.spec_value.specs.Datum.{Datum, Text, object, text, fold_case, invalid_argument, property_not_found, permission_denied}
use Rattle.spec_value.specs.Answer.{gives, raises}
use Rattle.spec_world.specs.World.{World, Object, Slot, object_at}
use Rattle.spec_world.specs.Inherit.{slot_at}
use Rattle.spec_world.specs.WellFormed.{has_name}
use Rattle.spec_world.specs.Agreeing.{ObjectsAgree}
use Rattle.spec_world.specs.Permissions.{may, change_members}
use Rattle.spec_world.specs.Members.{property_deleted}
use Rattle.spec_world.specs.Questions.{defines_at}
use Rattle.spec_moo.specs.Properties.{built_in}
use Rattle.spec_moo.specs.Scene.{Scene, in_world}
use Rattle.spec_moo.specs.NativeEffect.{Caller, NativeEffect, answers, refuses}
use Rattle.spec_moo.specs.Natives.Rows.{if_there, answers_with, zero_value}
use Rattle.spec_moo.specs.Natives.Properties.{are_bits, is_empty, defines_it, delete_property_row}
use Rattle.spec_world.proofs.Trees.{some_same}
use Rattle.rules.specs.Lines.{AreAgreeing}
use Rattle.view.specs.Law.{Goes, Tells}
use Rattle.builtins_view.specs.Said.{Does, with_programmer}
use Rattle.rules.specs.Below.{IsFamily}
use Rattle.builtins_view.specs.Slots.{any_defines}
use Rattle.builtins_view.specs.Defining.{is_new_in, is_definable, property_given, property_owned}
use Rattle.builtins_view.proofs.Slots.{defined_is}

-- ---- a property that may be defined

pub new_is : (w : World) (o : ℤ) (p : Text) (ds : List ℤ) (m : Bool) → ObjectsAgree w → IsFamily w o ds
    → (not (is_empty p) && is_none (built_in p) && is_none (slot_at w o p) && not (any_defines w p ds)) ≡ m → is_new_in w o p ≡ m
new_is w o p ds m sound family told =
    ap (λ d. not (is_empty p) && is_none (built_in p) && is_none (slot_at w o p) && not d) (sym (defined_is w sound o p ds family)) ∙ told

grouped : (a b c : Bool) → (a && b && c) ≡ (a && (b && c))
grouped true b c = refl
grouped false b c = refl

pub definable_is : (w : World) (o : ℤ) (p : Text) (owner : ℤ) (b : Text) (m n : Bool) → is_new_in w o p ≡ m → (are_bits (codes "rwc") b && is_some (object_at w owner)) ≡ n
    → is_definable w o p owner b ≡ (m && n)
definable_is w o p owner b m n new fit = grouped (is_new_in w o p) (are_bits (codes "rwc") b) (is_some (object_at w owner)) ∙ (λ i. new i && fit i)

-- what is not new is not definable
pub new_then : (w : World) (o : ℤ) (p : Text) (owner : ℤ) (b : Text) → is_new_in w o p ≡ false → is_definable w o p owner b ≡ false
new_then w o p owner b new = definable_is w o p owner b false (are_bits (codes "rwc") b && is_some (object_at w owner)) new refl

is_checked : (s : Scene) (k : Caller) (o : ℤ) (p : Text) (t : Slot) (owner : ℤ) (b : Text) (ts : List Text) (m : Bool) → defines_at s.world o ≡ Some ts
    → may s.world k.call.programmer (change_members o) ≡ m
    → property_given o p t owner b s k ≡ (if m then property_owned o p t owner b s k else refuses s permission_denied)
is_checked s k o p t owner b ts m is allowed =
    found (object_at s.world o) is ∙ ap (λ z. if z then property_owned o p t owner b s k else refuses s permission_denied) allowed
  where
    whole : NativeEffect
    whole = if may s.world k.call.programmer (change_members o) then property_owned o p t owner b s k else refuses s permission_denied

    found : (y : Option Object) → option_map (λ x. x.defines) y ≡ Some ts → if_there s invalid_argument y (λ x. whole) ≡ whole
    found None e = cc
    found (Some x) e = refl

pub is_given : (s : Scene) (k : Caller) (o : ℤ) (p : Text) (t : Slot) (owner : ℤ) (b : Text) (ts : List Text) → defines_at s.world o ≡ Some ts
    → may s.world k.call.programmer (change_members o) ≡ true → property_given o p t owner b s k ≡ property_owned o p t owner b s k
is_given s k o p t owner b ts is allowed = is_checked s k o p t owner b ts true is allowed

is_absent : (s : Scene) (k : Caller) (o : ℤ) (p : Text) (t : Slot) (owner : ℤ) (b : Text) → defines_at s.world o ≡ None
    → property_given o p t owner b s k ≡ refuses s invalid_argument
is_absent s k o p t owner b none = found (object_at s.world o) none
  where
    whole : NativeEffect
    whole = if may s.world k.call.programmer (change_members o) then property_owned o p t owner b s k else refuses s permission_denied

    found : (y : Option Object) → option_map (λ x. x.defines) y ≡ None → if_there s invalid_argument y (λ x. whole) ≡ refuses s invalid_argument
    found None e = refl
    found (Some x) e = cc

module _ {V : Type 0} (holds : V → World → Type 0) (now : V → World → World) (o : ℤ) (p : Text) (t : Slot) (owner : ℤ) (b : Text) (who : ℤ) where
  -- there is no such object
  pub absent_given : (x y : V) → Tells holds now x y (λ w. defines_at w o ≡ None)
      → Goes holds now x y (λ before after. Does (property_given o p t owner b) before after who (raises invalid_argument))
  absent_given x y asked w left =
      let r = asked w left in (
        r.0,
        λ s k. is_absent (in_world s (now x w)) (with_programmer k who) o p t owner b r.1.1 ∙ ap (λ v. refuses (in_world s v) invalid_argument) (sym r.1.0),
      )

  -- it may not have more properties
  pub refused_given : (x y z : V) (ts : List Text) → Tells holds now x y (λ w. defines_at w o ≡ Some ts) → Tells holds now y z (λ w. may w who (change_members o) ≡ false)
      → Goes holds now x z (λ before after. Does (property_given o p t owner b) before after who (raises permission_denied))
  refused_given x y z ts first second w left =
      let u = second w left in
      let r = first w u.0 in (
        r.0,
        λ s k. is_checked (in_world s (now x w)) (with_programmer k who) o p t owner b ts false r.1.1 (subst (λ v. may v who (change_members o) ≡ false) r.1.0 u.1.1)
            ∙ ap (λ v. refuses (in_world s v) permission_denied) (sym (u.1.0 ∙ r.1.0)),
      )

-- ---- a property that is there and may be taken out

is_decided : (s : Scene) (k : Caller) (o : ℤ) (p : Text) (ts : List Text) (b : Bool) → defines_at s.world o ≡ Some ts → has_name (map fold_case ts) (fold_case p) ≡ true
    → may s.world k.call.programmer (change_members o) ≡ b
    → delete_property_row s k (object o ∷ text p ∷ []) ≡ (if b then answers_with (in_world s (property_deleted s.world o p)) zero_value else refuses s permission_denied)
is_decided s k o p ts b is named allowed =
    found (object_at s.world o) is ∙ ap (λ z. if z then done else refuses s permission_denied) allowed
  where
    done : NativeEffect
    done = answers_with (in_world s (property_deleted s.world o p)) zero_value

    whole : NativeEffect
    whole = if may s.world k.call.programmer (change_members o) then done else refuses s permission_denied

    found : (y : Option Object) → option_map (λ x. x.defines) y ≡ Some ts
        → if_there s invalid_argument y (λ x. if defines_it x p then whole else refuses s property_not_found) ≡ whole
    found None e = cc
    found (Some x) e = ap (λ us. if has_name (map fold_case us) (fold_case p) then whole else refuses s property_not_found) (some_same e) ∙ ap (λ z. if z then whole else refuses s property_not_found) named

pub refused_does : {V : Type 0} (holds : V → World → Type 0) (now : V → World → World) (a b c : V) (o : ℤ) (p : Text) (ts : List Text) (who : ℤ)
    → Tells holds now a b (λ w. defines_at w o ≡ Some ts) → has_name (map fold_case ts) (fold_case p) ≡ true → Tells holds now b c (λ w. may w who (change_members o) ≡ false)
    → Goes holds now a c (λ before after. Does (λ s k. delete_property_row s k (object o ∷ text p ∷ [])) before after who (raises permission_denied))
refused_does holds now a b c o p ts who first named second w left =
    let s = second w left in
    let r = first w s.0 in (
      r.0,
      λ sc k. is_decided (in_world sc (now a w)) (with_programmer k who) o p ts false r.1.1 named (subst (λ v. may v who (change_members o) ≡ false) r.1.0 s.1.1)
          ∙ ap (λ v. refuses (in_world sc v) permission_denied) (sym (s.1.0 ∙ r.1.0)),
    )

pub deleted_does : {V : Type 0} (holds : V → World → Type 0) (now : V → World → World) (a b c d e : V) (o : ℤ) (p : Text) (ts : List Text) (ds : List ℤ) (who : ℤ) (v : Datum)
    → v ≡ zero_value → AreAgreeing holds now a → Tells holds now a b (λ w. defines_at w o ≡ Some ts) → has_name (map fold_case ts) (fold_case p) ≡ true
    → Tells holds now b c (λ w. may w who (change_members o) ≡ true) → Tells holds now c d (λ w. IsFamily w o ds)
    → Goes holds now d e (λ before after. ObjectsAgree before → IsFamily before o ds → defines_at before o ≡ Some ts → after ≡ property_deleted before o p)
    → Goes holds now a e (λ before after. Does (λ s k. delete_property_row s k (object o ∷ text p ∷ [])) before after who (gives v))
deleted_does holds now a b c d e o p ts ds who v zero known first named second third done w left =
    let u = done w left in
    let t = third w u.0 in
    let s = second w t.0 in
    let r = first w s.0 in
    let same : now d w ≡ now a w = t.1.0 ∙ s.1.0 ∙ r.1.0 in
    let after : now e w ≡ property_deleted (now d w) o p =
    u.1 (subst ObjectsAgree (sym same) (known w r.0).objects) (subst (λ v. IsFamily v o ds) (sym t.1.0) t.1.1) (subst (λ v. defines_at v o ≡ Some ts) (sym same) r.1.1)
    in
    let changed : property_deleted (now a w) o p ≡ now e w = sym (after ∙ ap (λ v. property_deleted v o p) same) in (
      r.0,
      λ sc k. is_decided (in_world sc (now a w)) (with_programmer k who) o p ts true r.1.1 named (subst (λ v. may v who (change_members o) ≡ true) r.1.0 s.1.1)
          ∙ (λ i. answers (in_world sc (changed i)) (gives (sym zero i))),
    )
