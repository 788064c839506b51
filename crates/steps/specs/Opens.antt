-- What a step has done before any task of it runs.
use Rattle.std.specs.Prelude.{◌≡◌, ℕ}
use Rattle.spec_world.specs.World.{World}
use Rattle.spec_world.specs.Step.{Step}
use Rattle.spec_moo.specs.Steps.Outcomes.{opening_scene}
use Rattle.moo_task.specs.Deeds.{scene_of}
use Rattle.moo_task.specs.declared.deeds.Deeds.{Deeds}

abbrev pub IsOpening : Step → Deeds → Type 0
IsOpening s d = (w : World) (t : ℕ) → opening_scene w s t ≡ scene_of d w t
