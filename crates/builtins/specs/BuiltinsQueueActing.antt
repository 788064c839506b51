-- What a built-in function does with a world, beside the deeds of a step, for each caller with this programmer.
use Rattle.std.specs.Prelude.{◌≡◌, ℕ, ℤ}
use Rattle.spec_world.specs.World.{World}
use Rattle.spec_moo.specs.Scene.{Scene}
use Rattle.spec_moo.specs.NativeEffect as N
use Rattle.moo_task.specs.Deeds.{scene_of}
use Rattle.moo_task.specs.Effects.{effect_of}
use Rattle.moo_task.specs.declared.deeds.Deeds.{Deeds}
use Rattle.moo_task.specs.declared.effect.NativeEffect.{NativeEffect}
use Rattle.builtins_view.specs.Said.{with_programmer}

-- from this world it leads to that one, with this effect
abbrev pub Acts : (Scene → N.Caller → N.NativeEffect) → Deeds → World → ℤ → NativeEffect → World → Type 0
Acts row d before who e after = (t : ℕ) (c : N.Caller) → row (scene_of d before t) (with_programmer c who) ≡ effect_of e (scene_of d after t)
