use Rattle.std.proofs.Common.{map, arith}
use Rattle.moo_program.specs.Drafting.{item_of}
use Rattle.moo_program.specs.Assembling.{scan}
use Rattle.moo_program.proofs.Opens.{scan_next}
use Rattle.moo_program.proofs.open.starts.Goals as goal

pub loop-i-preserved : goal.loop-i-preserved
loop-i-preserved c =
    scan_next c.loop-i.starts.items c.pass.new.starts.items c.loop-i.place c.in_ok-after.after c.in_ok-after.skipped c.loop-i.i c.in_ok-i.i c.args.items.now
    c.index-items-i.result (scan 0 c.args.first (map item_of c.args.items.now)) (omega (arith, c.loop-i-test.true)) c.index-items-i.is
    (omega (arith, c.in_ok-i.ensures, c.in_ok-plus.ensures)) c.in_ok-after.ensures c.loop-i.invariant
