use Rattle.speculate.specs.Lanes.{IsUnderWay}
use Rattle.speculate.proofs.lane.run_lane.Given as goal

abbrev pub invariant-at : goal.invariant-at
invariant-at l = IsUnderWay l.home l.steps l.lane l.world.plain
