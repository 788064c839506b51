use Rattle.std.proofs.Common.{◌-◌, ◌<ℤ◌, pos, get_or, arith, rules}
use Rattle.world_checks.proofs.Numbered.{rising, rises_next}
use Rattle.world_checks.proofs.table_checks.rise.rise.Goals as goal

pub returns-clause-tells : goal.returns-clause-tells
returns-clause-tells c = λ h. rising c.args.numbers.now (λ k lt. c.loop-index.invariant k (omega arith))

pub returns-then-numbers-index-clause-finds : goal.returns-then-numbers-index-clause-finds
returns-then-numbers-index-clause-finds c h =
    let i = c.loop-index.index in
    let next : get_or c.args.numbers.now (i - 1) (pos 0) <ℤ get_or c.args.numbers.now i (pos 0) = rises_next c.args.numbers.now h (i - 1) i (omega arith) (omega arith) in
    search rules
