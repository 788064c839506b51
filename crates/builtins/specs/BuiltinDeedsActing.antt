-- What a built-in function does for the verb that runs.
use Rattle.std.specs.Prelude.{◌≡◌}
use Rattle.spec_world.specs.World.{World}
use Rattle.spec_moo.specs.Scene.{Scene}
use Rattle.spec_moo.specs.Pending as pending
use Rattle.spec_moo.specs.NativeEffect as N
use Rattle.moo_task.specs.Deeds.{scene_of}
use Rattle.moo_task.specs.Effects.{effect_of}
use Rattle.moo_task.specs.Outcomes.{ticks_of, pending_of}
use Rattle.moo_task.specs.declared.deeds.Deeds.{Deeds}
use Rattle.moo_task.specs.declared.effect.NativeEffect.{NativeEffect}
use Rattle.moo_task.specs.declared.running.Running.{Running}

-- with the ticks of the task
abbrev pub scene_for : Deeds → World → Running → Scene
scene_for d w r = scene_of d w (ticks_of r)

abbrev pub caller_for : Running → N.Caller
caller_for r = pending.caller_of (pending_of r)

-- from these deeds and this world it leads to those, with this effect
abbrev pub ActsFor : (Scene → N.Caller → N.NativeEffect) → Running → Deeds → World → NativeEffect → Deeds → World → Type 0
ActsFor row r old before e new after = row (scene_for old before r) (caller_for r) ≡ effect_of e (scene_for new after r)
