-- What the value does with which a login ends.
use Rattle.std.specs.Prelude.{◌≡◌, ℕ, ℤ, Bool, false, Option, Some, None}
use Rattle.spec_world.specs.World.{World, Header}
use Rattle.spec_moo.specs.Pending.{Stop}
use Rattle.spec_moo.specs.Steps.Running.{stopped_as}
use Rattle.spec_moo.specs.Steps.Events.{login_value}
use Rattle.moo_task.specs.Deeds.{scene_of}
use Rattle.moo_task.specs.declared.deeds.Deeds.{Deeds}
use Rattle.task_step.specs.OutcomeView.{result_of}
use Rattle.task_step.specs.declared.outcome.Ending.{Ending}

abbrev pub Accepts : ℤ → Ending → Deeds → World → Deeds → World → Type 0
Accepts c e d before f after =
    (t : ℕ) (why : Stop) → stopped_as why ≡ result_of e → scene_of f after t ≡ login_value (scene_of d before t) c why

-- whether a header is that of a player
abbrev pub has_player : Option Header → Bool
has_player None = false
has_player (Some h) = h.is_player
