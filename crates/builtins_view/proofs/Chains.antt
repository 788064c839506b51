-- A call whose first checks have passed, and what is left of it.
use Rattle.std.proofs.Common.{◌≡◌, ℕ, ℤ, List, true, [], ◌∷◌, Option, Some, None, refl, sym, ap, ◌∙◌, subst, if◌then◌else◌}
use Rattle.std.specs.Prelude.{option_map}
use Rattle.spec_value.specs.Datum.{Datum, Text, object, text, invalid_argument, property_not_found, verb_not_found, permission_denied}
use Rattle.spec_value.specs.Answer.{Answer}
use Rattle.spec_world.specs.World.{World, Object, Slot, Verb, object_at}
use Rattle.spec_world.specs.Inherit.{slot_of, slot_at}
use Rattle.spec_world.specs.Permissions.{in_place, may, write_slot, write_verb, change_members}
use Rattle.spec_world.specs.Questions.{verbs_at}
use Rattle.spec_moo.specs.Scene.{Scene, in_world}
use Rattle.spec_moo.specs.NativeEffect.{Caller, NativeEffect, answers, refuses}
use Rattle.spec_moo.specs.Natives.Rows.{if_there}
use Rattle.spec_moo.specs.Natives.Properties.{set_property_info_row}
use Rattle.spec_moo.specs.Natives.Verbs.{Specifier, verb_place, set_verb_info_row}
use Rattle.spec_world.proofs.Trees.{some_same}
use Rattle.view.specs.Law.{Goes, Tells}
use Rattle.builtins_view.specs.Said.{Does, with_programmer}
use Rattle.builtins_view.specs.BuiltinsChangeLater.{slot_given, verb_given, added, added_owned}
use Rattle.builtins_view.specs.BuiltinsChangeListed.{owner_and_bits, info_given}
use Rattle.builtins_view.specs.declared.builtins_change.made.Info.{Info}

-- two calls tell that what is left is all
pub then_does : {V : Type 0} (holds : V → World → Type 0) (now : V → World → World) (a b c d : V) (P Q : World → Type 0) (rest row : Scene → Caller → NativeEffect) (who : ℤ) (x : Answer)
    → Tells holds now a b P → Tells holds now b c Q → Goes holds now c d (λ before after. P before → Does rest before after who x)
    → ((s : Scene) (k : Caller) → P s.world → Q s.world → row s (with_programmer k who) ≡ rest s (with_programmer k who))
    → Goes holds now a d (λ before after. Does row before after who x)
then_does holds now a b c d P Q rest row who x first second third so w left =
    let u = third w left in
    let t = second w u.0 in
    let f = first w t.0 in
    let same : now c w ≡ now a w = t.1.0 ∙ f.1.0 in (
      f.0,
      λ s k. so (in_world s (now a w)) k f.1.1 (subst Q f.1.0 t.1.1)
          ∙ subst (λ v. rest (in_world s v) (with_programmer k who) ≡ answers (in_world s (now d w)) x) same (u.1 (subst P (sym same) f.1.1) s k),
    )

-- ---- the slot is there, and may be written

pub slot_is_given : (s : Scene) (k : Caller) (o : ℤ) (p : Text) (t : Slot) (owner : ℤ) (b : Text) → slot_at s.world o p ≡ Some t → may s.world k.call.programmer (write_slot o p) ≡ true
    → set_property_info_row s k (object o ∷ text p ∷ owner_and_bits owner b ∷ []) ≡ slot_given o p t owner b s k
slot_is_given s k o p t owner b is allowed =
    found (object_at s.world o) is ∙ ap (λ z. if z then slot_given o p t owner b s k else refuses s permission_denied) allowed
  where
    whole : Slot → NativeEffect
    whole u = if may s.world k.call.programmer (write_slot o p) then slot_given o p u owner b s k else refuses s permission_denied

    found : (m : Option Object) → slot_of m p ≡ Some t → if_there s invalid_argument m (λ x. if_there s property_not_found (slot_of m p) whole) ≡ whole t
    found None e = cc
    found (Some x) e = ap (λ z. if_there s property_not_found z whole) e

-- ---- the object is there, and may have more verbs

pub is_added : (s : Scene) (k : Caller) (m : Option Specifier) (o : ℤ) (i : Info) (vs : List Verb) → verbs_at s.world o ≡ Some vs → may s.world k.call.programmer (change_members o) ≡ true
    → added m o i s k ≡ added_owned m o i s k
is_added s k m o i vs is allowed =
    found (object_at s.world o) is ∙ ap (λ z. if z then added_owned m o i s k else refuses s permission_denied) allowed
  where
    whole : NativeEffect
    whole = if may s.world k.call.programmer (change_members o) then added_owned m o i s k else refuses s permission_denied

    found : (y : Option Object) → option_map (λ x. x.verbs) y ≡ Some vs → if_there s invalid_argument y (λ x. whole) ≡ whole
    found None e = cc
    found (Some x) e = refl

-- ---- the verb is there, and may be written

pub verb_is_given : (s : Scene) (k : Caller) (o : ℤ) (d : Datum) (i : Info) (vs : List Verb) (n : ℕ) (v : Verb) → verbs_at s.world o ≡ Some vs → verb_place vs d ≡ Some n → in_place vs n ≡ Some v
    → may s.world k.call.programmer (write_verb o n) ≡ true → set_verb_info_row s k (object o ∷ d ∷ info_given i ∷ []) ≡ verb_given o n v i s k
verb_is_given s k o d i vs n v is place there allowed =
    found (object_at s.world o) is ∙ ap (λ z. if_there s verb_not_found z (among vs)) place ∙ ap (λ z. if_there s verb_not_found z (whole n)) there
    ∙ ap (λ z. if z then verb_given o n v i s k else refuses s permission_denied) allowed
  where
    whole : ℕ → Verb → NativeEffect
    whole j u = if may s.world k.call.programmer (write_verb o j) then verb_given o j u i s k else refuses s permission_denied

    among : List Verb → ℕ → NativeEffect
    among us j = if_there s verb_not_found (in_place us j) (whole j)

    found : (m : Option Object) → option_map (λ x. x.verbs) m ≡ Some vs
        → if_there s invalid_argument m (λ x. if_there s verb_not_found (verb_place x.verbs d) (among x.verbs)) ≡ if_there s verb_not_found (verb_place vs d) (among vs)
    found None e = cc
    found (Some x) e = ap (λ us. if_there s verb_not_found (verb_place us d) (among us)) (some_same e)
