-- What a built-in function does with a world and the deeds of a step, for each caller with this programmer.
use Rattle.std.specs.Prelude.{◌≡◌, ℕ, ℤ}
use Rattle.spec_world.specs.World.{World}
use Rattle.spec_moo.specs.Scene.{Scene}
use Rattle.spec_moo.specs.NativeEffect as N
use Rattle.moo_task.specs.Deeds.{scene_of}
use Rattle.moo_task.specs.Effects.{effect_of}
use Rattle.moo_task.specs.declared.deeds.Deeds.{Deeds}
use Rattle.moo_task.specs.declared.effect.NativeEffect.{NativeEffect}
use Rattle.builtins_view.specs.Said.{with_programmer}

-- from these deeds and this world it leads to those, with this effect
abbrev pub Acts : (Scene → N.Caller → N.NativeEffect) → Deeds → World → ℤ → NativeEffect → Deeds → World → Type 0
Acts row old before who e new after = (t : ℕ) (c : N.Caller) → row (scene_of old before t) (with_programmer c who) ≡ effect_of e (scene_of new after t)

abbrev pub with_player : N.Caller → ℤ → N.Caller
with_player c player = record c { player = player }
