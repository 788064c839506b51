-- Tasks that runs leave waiting.
use Rattle.std.specs.Prelude.{ℕ, List}
use Rattle.spec_world.specs.World.{Waiting}
use Rattle.spec_moo.specs.Pending.{Pending}
use Rattle.spec_moo.specs.Scene.{Scene}
use Rattle.spec_moo.specs.Segment.{segment}
use Rattle.spec_moo.specs.Worlds.{SceneAgrees, IsUnderWay}
use Rattle.moo_code.specs.Machine.{Outer, waits}
use Rattle.moo_code.specs.Runs.{StoppedAs}
use Rattle.moo_task.specs.Keeping.{HasStopped}

-- a run that stops as a segment does leaves what can be kept, where it leaves a task that waits
abbrev pub StopsAreKept : Type 0
StopsAreKept =
    (k t u : ℕ) (s w : Scene) (p : Pending) (why : Waiting) (ks : List Outer)
    → SceneAgrees k s → IsUnderWay p → StoppedAs (segment t s p) (waits w why ks u) → HasStopped why ks
