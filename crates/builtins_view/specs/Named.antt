-- A task that takes an id.
use Rattle.std.specs.Prelude.{◌≡◌, ℕ, ℤ, Option, Some, None}
use Rattle.spec_value.specs.Datum.{limit_exceeded}
use Rattle.spec_world.specs.World.{World}
use Rattle.spec_moo.specs.Scene.{Scene}
use Rattle.spec_moo.specs.NativeEffect.{NativeEffect, refuses}
use Rattle.spec_moo.specs.Natives.Tasks.{waits_with_id}
use Rattle.moo_task.specs.Deeds.{scene_of}
use Rattle.moo_task.specs.declared.deeds.Deeds.{Deeds}

-- with the id, or without one left
abbrev pub named_effect : Option ℤ → Scene → (ℤ × Scene → NativeEffect) → NativeEffect
named_effect None s f = refuses s limit_exceeded
named_effect (Some i) s f = f (i, s)

abbrev pub IsNamed : Deeds → Option ℤ → Deeds → Type 0
IsNamed before i after =
    (w : World) (t : ℕ) (f : ℤ × Scene → NativeEffect) → waits_with_id (scene_of before w t) f ≡ named_effect i (scene_of after w t) f
