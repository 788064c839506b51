-- Segments, steps and lists of steps.
use Rattle.spec_holding.proofs.SegmentsHold.{segments_hold}
use Rattle.spec_holding.proofs.StepsHold.{steps_hold, lists_hold}
use Rattle.spec_holding.proofs.WholeWorlds.{stays_whole_once, stays_whole}
use Rattle.spec_holding.proofs.worlds.steps.Goals as goal

pub returns-clause-segments : goal.returns-clause-segments
returns-clause-segments c = segments_hold

pub returns-clause-steps : goal.returns-clause-steps
returns-clause-steps c = steps_hold

pub returns-clause-lists : goal.returns-clause-lists
returns-clause-lists c = lists_hold

pub returns-clause-once : goal.returns-clause-once
returns-clause-once c = stays_whole_once

pub returns-clause-whole : goal.returns-clause-whole
returns-clause-whole c = stays_whole
