use Rattle.std.proofs.Common.{◌∙◌, ap, arith}
use Rattle.spec_world.specs.Questions.{apply_all}
use Rattle.speculate.proofs.Strands.{lane_more, strands_all}
use Rattle.speculate.proofs.weaving.all_changes.Goals as goal

pub loop-lane-init : goal.loop-lane-init
loop-lane-init c base steps run w = ap (λ cs. apply_all cs w) c.new-all.ensures

pub loop-lane-preserved : goal.loop-lane-preserved
loop-lane-preserved c base steps run =
    lane_more base steps c.args.lanes.now c.loop-lane.lane-index c.lane-item.result c.loop-lane.all c.add_lane.new.all (omega arith) c.lane-item.is run
    (c.add_lane.ensures c.if-not-add_lane.false) (c.loop-lane.invariant base steps run)

pub returns : goal.returns
returns c base steps run w = c.loop-lane.invariant base steps run w ∙ strands_all c.args.lanes.now c.loop-lane.lane-index w (omega arith)
