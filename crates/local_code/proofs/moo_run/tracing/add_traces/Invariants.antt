use Rattle.std.proofs.Common.{◌≡◌, ◌≤◌, ◌++◌, length, take}
use Rattle.spec_moo.specs.Pending.{outer_trace}
use Rattle.moo_code.specs.Machine.{entries}
use Rattle.moo_task.specs.Frames.{outers_of}
use Rattle.local_code.proofs.moo_run.tracing.add_traces.Given as goal

abbrev pub invariant-each : goal.invariant-each
invariant-each l = record {
  inside : l.left ≤ length l.stack;
  traced : l.verbs.items ++ outer_trace l.fn.player (entries (outers_of (take l.left l.stack))) ≡ l.fn.inner.items ++ outer_trace l.fn.player (entries (outers_of l.stack));
}

abbrev pub decreases-each : goal.decreases-each
decreases-each l = l.left
