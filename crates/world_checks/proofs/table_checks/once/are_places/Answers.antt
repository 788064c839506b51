use Rattle.std.proofs.Common.{arith}
use Rattle.world_checks.proofs.Placed.{once_by_places}
use Rattle.world_checks.proofs.table_checks.once.are_places.Goals as goal

pub returns-clause-tells : goal.returns-clause-tells
returns-clause-tells c = λ h. once_by_places c.args.marks.now c.args.list.now (λ k lt. c.loop-index.invariant k (omega arith))
