use Rattle.std.proofs.Common.{arith}
use Rattle.checkpoint_lines.proofs.row.Row.count.Goals as goal

pub returns-clause-reads : goal.returns-clause-reads
returns-clause-reads c = λ n h e. c.number.ensures.reads n (omega arith) (omega arith) e
