use Rattle.std.proofs.Common.{sym, subst}
use Rattle.speculate.specs.Lanes.{Each, HasRun}
use Rattle.speculate.specs.declared.lane.Lane.{Lane}
use Rattle.speculate.proofs.Woven.{each_more}
use Rattle.speculate.proofs.bench.taken.Goals as goal

pub ran-preserved : goal.ran-preserved
ran-preserved g c =
    let P : Lane → Type 0 = HasRun g.J.Run.base.plain g.J.Run.steps in
    subst (Each P) (sym (c.keep.ensures c.if-not-keep.false)) (each_more P c.ran.lanes.items c.into_lane.result c.ran.invariant c.into_lane.ensures.run)
