-- When a task may run: it stands for what the definition has pending, and both are under way.
use Rattle.spec_value.specs.Datum.{Text}
use Rattle.spec_world.specs.World.{Call}
use Rattle.spec_moo.specs.Pending.{Pending}
use Rattle.spec_moo.specs.Worlds as worlds
use Rattle.moo_task.specs.Outcomes.{running_kept}
use Rattle.moo_task.specs.declared.running.Running.{Running}
use Rattle.moo_task.specs.UnderWay.{IsPending, IsUnderWay}

pub record MayRun (task : Running) (p : Pending) : Type 0 where
  pub pending : IsPending p task.player (running_kept task) task.outer
  pub under_way : IsUnderWay (running_kept task) task.outer
  pub keeps : worlds.IsUnderWay p

-- who runs a verb, by another name
abbrev pub called_as : Call → Text → Call
called_as c word = record c { verb = word }
