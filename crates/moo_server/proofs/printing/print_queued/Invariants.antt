use Rattle.std.proofs.Common.{take}
use Rattle.std.specs.List.{flat_map}
use Rattle.std.specs.Io.KnownBytes.{Appends}
use Rattle.task_step.specs.OutcomeView.{queued_of}
use Rattle.moo_server.specs.Printed.{queued_line}
use Rattle.moo_server.proofs.printing.print_queued.Given as goal

abbrev pub invariant-loop-queued : goal.invariant-loop-queued
invariant-loop-queued g l = Appends (g.W.Write.contents l.fn.out) (g.W.Write.contents l.out) (flat_map queued_line (queued_of (take l.queued-index l.tasks)))
