-- What is left of a call when its first checks have passed, or its words were read.
use Rattle.std.specs.Prelude.{ℤ, ℕ, ◌&&◌, [], ◌∷◌, codes, Option}
use Rattle.spec_value.specs.Datum.{Datum, Text, invalid_argument}
use Rattle.spec_world.specs.World.{Slot, Verb}
use Rattle.spec_world.specs.Inherit.{with_slot}
use Rattle.spec_world.specs.Members.{verb_added, verb_changed}
use Rattle.spec_world.specs.Permissions.{change_members, change_owner, write_verb}
use Rattle.spec_moo.specs.Scene.{Scene, in_world}
use Rattle.spec_moo.specs.NativeEffect.{Caller, NativeEffect}
use Rattle.spec_moo.specs.Natives.Rows.{unless, wants, if_there, may_do, if_valid, is_valid, answers_with, zero_value}
use Rattle.spec_moo.specs.Natives.Properties.{are_bits, with_slot_bits}
use Rattle.spec_moo.specs.Natives.Verbs.{Specifier, if_verb, with_info, info_fits, with_specifier, new_verb}
use Rattle.builtins_view.specs.declared.builtins_change.made.Info.{Info}

-- ---- the slot is there and may be written

abbrev pub slot_given : ℤ → Text → Slot → ℤ → Text → Scene → Caller → NativeEffect
slot_given o p t owner b s c =
    unless s (may_do s c (change_owner t.owner owner) ∷ wants (are_bits (codes "rwc") b && is_valid s owner) invalid_argument ∷ [])
    (answers_with (in_world s (with_slot s.world o p (with_slot_bits t owner b))) zero_value)

-- ---- the verb is there and may be written

abbrev pub verb_given : ℤ → ℕ → Verb → Info → Scene → Caller → NativeEffect
verb_given o n v i s c =
    unless s (may_do s c (change_owner v.owner i.owner) ∷ wants (info_fits s i.owner i.bits i.names) invalid_argument ∷ [])
    (answers_with (in_world s (verb_changed s.world o n (with_info i.owner i.bits i.names))) zero_value)

-- ---- with a specifier that words tell, or none

abbrev pub specified : Option Specifier → ℤ → Datum → Scene → Caller → NativeEffect
specified m o d s c =
    if_verb s o d (λ n v.
    unless s (may_do s c (write_verb o n) ∷ [])
    (if_there s invalid_argument m (λ a. answers_with (in_world s (verb_changed s.world o n (with_specifier a))) zero_value)))

-- a verb may be added
abbrev pub added_owned : Option Specifier → ℤ → Info → Scene → Caller → NativeEffect
added_owned m o i s c =
    unless s (may_do s c (change_owner c.call.programmer i.owner) ∷ wants (info_fits s i.owner i.bits i.names) invalid_argument ∷ [])
    (if_there s invalid_argument m (λ a. answers_with (in_world s (verb_added s.world o (new_verb a i.owner i.bits i.names))) zero_value))

abbrev pub added : Option Specifier → ℤ → Info → Scene → Caller → NativeEffect
added m o i s c =
    if_valid s o (λ x.
    unless s (may_do s c (change_members o) ∷ may_do s c (change_owner c.call.programmer i.owner) ∷ wants (info_fits s i.owner i.bits i.names) invalid_argument ∷ [])
    (if_there s invalid_argument m (λ a. answers_with (in_world s (verb_added s.world o (new_verb a i.owner i.bits i.names))) zero_value)))
