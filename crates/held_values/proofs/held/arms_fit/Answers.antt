use Rattle.held_values.proofs.Telling.{arm_at}
use Rattle.held_values.proofs.held.arms_fit.Goals as goal

pub returns-then-not-code_fits-clause-finds : goal.returns-then-not-code_fits-clause-finds
returns-then-not-code_fits-clause-finds c h =
    c.if-not-code_fits.ensures.finds
    (arm_at c.args.arms.now c.args.held.now c.loop-i.i c.index-arms-i.result c.index-held-i.result h c.loop-i-test.true c.index-arms-i.is c.index-held-i.is)
