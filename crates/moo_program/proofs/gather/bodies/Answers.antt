use Rattle.std.proofs.Common.{◌<◌, ◌≤◌, length, arith}
use Rattle.moo_program.specs.Tables.{bodies_of}
use Rattle.moo_program.proofs.GatherSteps.{bodies_step, bodies_end}
use Rattle.moo_program.proofs.gather.bodies.Goals as goal

pub loop-i-preserved : goal.loop-i-preserved
loop-i-preserved c =
    let h : c.loop-i.i < length c.args.items.now = omega (arith, c.loop-i-test.true, c.loop-i.auto.i-end) in
    bodies_step (bodies_of c.loop-i.bodies.items) (bodies_of c.body.new.bodies.items) _ c.args.items.now c.loop-i.i c.index-items-i.result h c.index-items-i.is
    c.in_ok-body.ensures c.loop-i.invariant

pub returns : goal.returns
returns c =
    let h : length c.args.items.now ≤ c.loop-i.i = omega (arith, c.loop-i-test.false, c.loop-i.auto.i-end) in
    bodies_end (bodies_of c.loop-i.bodies.items) _ c.args.items.now c.loop-i.i h c.loop-i.invariant
