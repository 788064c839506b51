-- Beginnings, values, targets, ends.
use Rattle.spec_holding.proofs.PointsReach.{beginnings_reach, values_reach, targets_reach, ends_reach}
use Rattle.spec_holding.proofs.points.reaching.Goals as goal

pub returns-clause-beginnings : goal.returns-clause-beginnings
returns-clause-beginnings c = beginnings_reach

pub returns-clause-values : goal.returns-clause-values
returns-clause-values c = values_reach

pub returns-clause-targets : goal.returns-clause-targets
returns-clause-targets c = targets_reach

pub returns-clause-ends : goal.returns-clause-ends
returns-clause-ends c = ends_reach
