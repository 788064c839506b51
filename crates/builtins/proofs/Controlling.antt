-- The programmer of a task.
use Rattle.std.proofs.Common.{◌≡◌, Some, sym, ap}
use Rattle.spec_world.specs.World.{Call, Task}
use Rattle.spec_moo.specs.Natives.Tasks.{innermost, programmer_of, task_programmer}

pub programmer_is : (t : Task) (d : Call) → innermost t.entries ≡ Some d → d.programmer ≡ task_programmer t
programmer_is t d is = sym (ap programmer_of is)
