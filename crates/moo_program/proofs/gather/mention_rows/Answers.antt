use Rattle.std.proofs.Common.{◌<◌, ◌≤◌, length, arith}
use Rattle.moo_program.specs.Names.{known}
use Rattle.moo_program.proofs.GatherSteps.{rows_step, rows_end}
use Rattle.moo_program.proofs.gather.mention_rows.Goals as goal

pub loop-i-preserved : goal.loop-i-preserved
loop-i-preserved c =
    let h : c.loop-i.i < length c.args.rows.now = omega (arith, c.loop-i-test.true, c.loop-i.auto.i-end) in
    rows_step (known c.loop-i.names) (known c.mention_row.new.names) _ c.args.rows.now c.loop-i.i c.index-rows-i.result h c.index-rows-i.is c.in_ok-mention_row.ensures c.loop-i.invariant

pub returns : goal.returns
returns c =
    let h : length c.args.rows.now ≤ c.loop-i.i = omega (arith, c.loop-i-test.false, c.loop-i.auto.i-end) in
    rows_end (known c.loop-i.names) _ c.args.rows.now c.loop-i.i h c.loop-i.invariant
