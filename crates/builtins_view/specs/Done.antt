-- What a built-in function does with the deeds of the step, in every world and for every caller.
use Rattle.std.specs.Prelude.{◌≡◌, ℕ}
use Rattle.spec_world.specs.World.{World}
use Rattle.spec_moo.specs.Scene.{Scene}
use Rattle.spec_moo.specs.NativeEffect as N
use Rattle.moo_task.specs.Deeds.{scene_of}
use Rattle.moo_task.specs.Effects.{effect_of}
use Rattle.moo_task.specs.declared.deeds.Deeds.{Deeds}
use Rattle.moo_task.specs.declared.effect.NativeEffect.{NativeEffect}

-- from these deeds it leads to those, with this effect
abbrev pub Does : (Scene → N.Caller → N.NativeEffect) → Deeds → NativeEffect → Deeds → Type 0
Does row before e after = (w : World) (t : ℕ) (c : N.Caller) → row (scene_of before w t) c ≡ effect_of e (scene_of after w t)
