use Rattle.std.proofs.Common.{take}
use Rattle.std.specs.Io.KnownBytes.{Appends}
use Rattle.moo_server.specs.Printed.{printed}
use Rattle.moo_server.proofs.printing.print_steps.Given as goal

abbrev pub invariant-loop-i : goal.invariant-loop-i
invariant-loop-i g l = Appends (g.W.Write.contents l.fn.out) (g.W.Write.contents l.out) (printed (take l.i l.steps) (take l.i l.outcomes))
