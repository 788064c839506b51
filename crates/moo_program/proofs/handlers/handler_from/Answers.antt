use Rattle.std.proofs.Common.{◌<◌, ◌≤◌, length, arith}
use Rattle.moo_program.proofs.Catching.{passed, found, none}
use Rattle.moo_program.proofs.handlers.handler_from.Goals as goal

pub loop-i-preserved : goal.loop-i-preserved
loop-i-preserved c names =
    let h : c.loop-i.i < length c.args.handlers.now = omega (arith, c.loop-i-test.true) in
    passed names c.args.handlers.now c.args.place c.args.from c.loop-i.i c.index-handlers-i.result h c.index-handlers-i.is (c.if-covers.ensures names) (c.loop-i.invariant names)

pub returns-then-covers : goal.returns-then-covers
returns-then-covers c names =
    let h : c.loop-i.i < length c.args.handlers.now = omega (arith, c.loop-i-test.true) in
    found names c.args.handlers.now c.args.place c.args.from c.loop-i.i c.index-handlers-i.result h c.index-handlers-i.is (c.if-covers.ensures names) (c.loop-i.invariant names)

pub returns : goal.returns
returns c names =
    let h : length c.args.handlers.now ≤ c.loop-i.i = omega (arith, c.loop-i-test.false) in
    none names c.args.handlers.now c.args.place c.args.from c.loop-i.i h (c.loop-i.invariant names)
