use Rattle.std.proofs.Common.{◌≡◌, ◌≤◌, length, take}
use Rattle.spec_moo.specs.Pending.{calls_of}
use Rattle.spec_moo.specs.Natives.Tasks.{first_of, programmer_of}
use Rattle.moo_code.specs.Machine.{entries}
use Rattle.moo_task.specs.Frames.{outers_of}
use Rattle.builtins.proofs.builtins_queue.callers.innermost_programmer.Given as goal

abbrev pub invariant-each : goal.invariant-each
invariant-each l = record {
  inside : l.left ≤ length l.stack;
  same : programmer_of (first_of (calls_of (entries (outers_of (take l.left l.stack))))) ≡ programmer_of (first_of (calls_of (entries (outers_of l.stack))));
}

abbrev pub decreases-each : goal.decreases-each
decreases-each l = l.left
