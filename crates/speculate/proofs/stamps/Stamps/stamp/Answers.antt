use Rattle.std.proofs.Common.{arith}
use Rattle.speculate.proofs.Stamped.{passes_more, passes_all}
use Rattle.speculate.proofs.stamps.Stamps.stamp.Goals as goal

pub loop-change-preserved : goal.loop-change-preserved
loop-change-preserved c =
    passes_more c.args.self.now c.loop-change.self c.note_one.new.self c.args.count c.args.changes.now c.loop-change.change-index c.change-item.result (omega arith) c.change-item.is c.loop-change.invariant c.note_one.ensures

pub returns : goal.returns
returns c = passes_all c.args.self.now c.loop-change.self c.args.count c.args.changes.now c.loop-change.change-index (omega arith) c.loop-change.invariant
