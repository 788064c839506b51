use Rattle.moo_task.proofs.Stacks.{outer_at}
use Rattle.moo_task.proofs.same.same_stacks.Goals as goal

pub returns-then-not-same_outer : goal.returns-then-not-same_outer
returns-then-not-same_outer c = (
  λ h. absurd (cc),
  λ e. c.if-not-same_outer.ensures.1
      (outer_at c.args.xs.now c.args.ys.now c.loop-i.i c.index-xs-i.result c.index-ys-i.result c.loop-i-test.true c.index-xs-i.is c.index-ys-i.is e),
)
