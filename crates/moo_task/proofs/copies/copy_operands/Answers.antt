use Rattle.moo_task.proofs.Stacks.{all_put}
use Rattle.moo_task.proofs.copies.copy_operands.Goals as goal

pub returns : goal.returns
returns c =
    all_put c.args.operands.now c.above-values.result.now c.loop-value.copy c.loop-value.value-index c.above-values.ensures
    c.loop-value-test.false c.loop-value.invariant
