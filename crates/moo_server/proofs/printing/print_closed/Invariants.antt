use Rattle.std.proofs.Common.{take}
use Rattle.std.specs.List.{flat_map}
use Rattle.std.specs.Io.KnownBytes.{Appends}
use Rattle.task_step.specs.OutcomeView.{closed_of}
use Rattle.moo_server.specs.Printed.{closed_line}
use Rattle.moo_server.proofs.printing.print_closed.Given as goal

abbrev pub invariant-loop-connection : goal.invariant-loop-connection
invariant-loop-connection g l = Appends (g.W.Write.contents l.fn.out) (g.W.Write.contents l.out) (flat_map closed_line (closed_of (take l.connection-index l.connections)))
