-- Whether a property may be defined on an object, and what is left of a call that defines it.
use Rattle.std.specs.Prelude.{◌≡◌, ℤ, Bool, true, false, not, ◌&&◌, List, [], ◌∷◌, is_none, is_some, Option, Some, None, codes}
use Rattle.spec_value.specs.Datum.{Text, invalid_argument}
use Rattle.spec_world.specs.World.{World, Slot, object_at}
use Rattle.spec_world.specs.Inherit.{slot_at}
use Rattle.spec_world.specs.Members.{property_added}
use Rattle.spec_world.specs.Permissions.{change_members, change_owner}
use Rattle.spec_moo.specs.Properties.{built_in}
use Rattle.spec_moo.specs.Scene.{Scene, in_world}
use Rattle.spec_moo.specs.NativeEffect.{Caller, NativeEffect}
use Rattle.spec_moo.specs.Natives.Rows.{unless, wants, may_do, if_valid, answers_with, zero_value}
use Rattle.spec_moo.specs.Natives.Properties.{are_bits, is_empty, defined_below}
use Rattle.rules.specs.Below.{IsFamily}

-- neither built in nor empty, nor known above or below
abbrev pub is_new_in : World → ℤ → Text → Bool
is_new_in w o p = not (is_empty p) && is_none (built_in p) && is_none (slot_at w o p) && not (defined_below w o p)

abbrev pub is_definable : World → ℤ → Text → ℤ → Text → Bool
is_definable w o p owner b = is_new_in w o p && are_bits (codes "rwc") b && is_some (object_at w owner)

-- it is, and these are the object and all below it; or it is not
abbrev pub DefinableOn : World → ℤ → Text → ℤ → Text → Option (List ℤ) → Type 0
DefinableOn w o p owner b None = is_definable w o p owner b ≡ false
DefinableOn w o p owner b (Some ds) = (is_definable w o p owner b ≡ true) × IsFamily w o ds

-- a call with that slot
abbrev pub property_given : ℤ → Text → Slot → ℤ → Text → Scene → Caller → NativeEffect
property_given o p t owner b s c =
    if_valid s o (λ x.
    unless s (may_do s c (change_members o) ∷ may_do s c (change_owner c.call.programmer owner) ∷ wants (is_definable s.world o p owner b) invalid_argument ∷ [])
    (answers_with (in_world s (property_added s.world o p t)) zero_value))

-- what is left of it where the object may have more properties
abbrev pub property_owned : ℤ → Text → Slot → ℤ → Text → Scene → Caller → NativeEffect
property_owned o p t owner b s c =
    unless s (may_do s c (change_owner c.call.programmer owner) ∷ wants (is_definable s.world o p owner b) invalid_argument ∷ [])
    (answers_with (in_world s (property_added s.world o p t)) zero_value)
