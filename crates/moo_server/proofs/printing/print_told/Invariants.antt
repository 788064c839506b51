use Rattle.std.proofs.Common.{take}
use Rattle.std.specs.List.{flat_map}
use Rattle.std.specs.Io.KnownBytes.{Appends}
use Rattle.task_step.specs.OutcomeView.{lines_of}
use Rattle.moo_server.specs.Printed.{told_line}
use Rattle.moo_server.proofs.printing.print_told.Given as goal

abbrev pub invariant-loop-line : goal.invariant-loop-line
invariant-loop-line g l = Appends (g.W.Write.contents l.fn.out) (g.W.Write.contents l.out) (flat_map told_line (lines_of (take l.line-index l.lines)))
