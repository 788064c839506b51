use Rattle.std.proofs.Common.{rules}
use Rattle.tree_grammar.proofs.Parts.{arms_on}
use Rattle.tree_grammar.proofs.statement.+statement.Goals as goal

pub arms_fit-loop-arm-preserved : goal.arms_fit-loop-arm-preserved
arms_fit-loop-arm-preserved t c =
    arms_on c.args.loops.now c.args.arms.now c.loop-arm.arm-index c.arm-item.result c.args.room c.loop-arm-test.true c.arm-item.is (search rules) (search rules) c.loop-arm.invariant
