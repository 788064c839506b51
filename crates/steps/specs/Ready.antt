-- When a step may run a task over a view: in the world now, whichever start it was.
use Rattle.std.specs.Prelude.{ℕ}
use Rattle.spec_world.specs.World.{World}
use Rattle.spec_ready.specs.Ready.{IsReady}
use Rattle.moo_task.specs.Deeds.{scene_of}
use Rattle.moo_task.specs.declared.deeds.Deeds.{Deeds}

-- whatever the ticks are
abbrev pub AreReady : {V : Type 0} → (V → World → Type 0) → (V → World → World) → V → Deeds → Type 0
AreReady holds now view d = (w : World) → holds view w → (t : ℕ) → IsReady (scene_of d (now view w) t)
