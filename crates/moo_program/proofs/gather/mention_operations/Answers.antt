use Rattle.std.proofs.Common.{◌<◌, ◌≤◌, length, arith}
use Rattle.moo_program.specs.Names.{known}
use Rattle.moo_program.proofs.GatherSteps.{names_step, names_end}
use Rattle.moo_program.proofs.gather.mention_operations.Goals as goal

pub loop-i-preserved : goal.loop-i-preserved
loop-i-preserved c =
    let h : c.loop-i.i < length c.args.items.now = omega (arith, c.loop-i-test.true, c.loop-i.auto.i-end) in
    names_step (known c.loop-i.names) (known c.mention_operation.new.names) _ c.args.items.now c.loop-i.i c.index-items-i.result h c.index-items-i.is c.in_ok-mention_operation.ensures c.loop-i.invariant

pub returns : goal.returns
returns c =
    let h : length c.args.items.now ≤ c.loop-i.i = omega (arith, c.loop-i-test.false, c.loop-i.auto.i-end) in
    names_end (known c.loop-i.names) _ c.args.items.now c.loop-i.i h c.loop-i.invariant
