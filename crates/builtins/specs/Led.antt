-- What a built-in function leads to: in each scene, for each caller whose verb runs by this call.
use Rattle.std.specs.Prelude.{◌≡◌, ℕ, ℤ, Option, Some, None}
use Rattle.spec_value.specs.Datum.{Text, Data}
use Rattle.spec_world.specs.World.{World, Call, Native}
use Rattle.spec_moo.specs.Scene.{Scene, in_world}
use Rattle.spec_moo.specs.NativeEffect as N
use Rattle.spec_moo.specs.Natives.Objects.{calls_if_there}
use Rattle.moo_task.specs.Deeds.{scene_of}
use Rattle.moo_task.specs.Effects.{effect_of}
use Rattle.moo_task.specs.declared.deeds.Deeds.{Deeds}
use Rattle.moo_task.specs.declared.effect.NativeEffect.{NativeEffect}

abbrev pub with_call : N.Caller → Call → N.Caller
with_call c k = record c { call = k }

-- from this world to that one, with this effect
abbrev pub Leads : (Scene → N.Caller → N.NativeEffect) → World → World → Call → NativeEffect → Type 0
Leads row before after k e = (s : Scene) (c : N.Caller) → row (in_world s before) (with_call c k) ≡ effect_of e (in_world s after)

-- a verb that begins, or else what happens without one
abbrev pub begun_or : Option NativeEffect → Scene → N.NativeEffect → N.NativeEffect
begun_or None s e = e
begun_or (Some x) s e = effect_of x s

-- the call of a verb, if it is there
abbrev pub MayBegin : Native → ℤ → Text → Data → World → Call → Option NativeEffect → Type 0
MayBegin n o word args w k m = (s : Scene) (c : N.Caller) (e : N.NativeEffect) → calls_if_there (in_world s w) (with_call c k) n o word args e ≡ begun_or m (in_world s w) e

-- from these deeds and this world to those, in each scene of the step
abbrev pub LeadsOver : (Scene → N.Caller → N.NativeEffect) → Deeds → World → Call → NativeEffect → Deeds → World → Type 0
LeadsOver row old before k e new after = (t : ℕ) (c : N.Caller) → row (scene_of old before t) (with_call c k) ≡ effect_of e (scene_of new after t)
