use Rattle.std.proofs.Common.{arith}
use Rattle.speculate.proofs.Parts.{runs_append}
use Rattle.speculate.proofs.stretches.go_on.Goals as goal

pub returns-in-Ok-clause-views : goal.returns-in-Ok-clause-views
returns-in-Ok-clause-views g c =
    rw c.put_behind-in-Ok.ensures.items (omega (arith, runs_append c.args.report.marks.items c.in-Ok.last.marks.items, c.in-Ok.ensures.views))
