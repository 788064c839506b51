use Rattle.std.proofs.Common.{sym, subst}
use Rattle.task_lines.specs.Wanting.{StandsWith}
use Rattle.task_lines.proofs.stand.stand_at.Goals as goal

pub returns-then-is_fork-clause-tells : goal.returns-then-is_fork-clause-tells
returns-then-is_fork-clause-tells c =
    subst (λ b. StandsWith b c.args.program.now c.args.path.now c.at_beginning.result) (sym c.if-is_fork.true) (c.at_beginning.ensures.tells c.args.program.now)
