use Rattle.std.proofs.Common.{◌≡◌, ◌≤◌, length}
use Rattle.spec_moo.specs.Scene.{Scene}
use Rattle.spec_moo.specs.Leaving.{failed}
use Rattle.moo_task.specs.Meant.{failure_meant}
use Rattle.local_code.specs.Steps.{out_in}
use Rattle.local_code.proofs.moo_unwind.outward.raise_out.Given as goal

abbrev pub invariant-out : goal.invariant-out
invariant-out l = record {
  player : l.task.player ≡ l.fn.task.player;
  few : length l.task.outer ≤ length l.fn.task.outer;
  same : (s : Scene) → out_in (failed (failure_meant l.fn.failure)) s l.fn.task ≡ out_in (failed (failure_meant l.fn.failure)) s l.task;
}

abbrev pub decreases-out : goal.decreases-out
decreases-out l = length l.task.outer
