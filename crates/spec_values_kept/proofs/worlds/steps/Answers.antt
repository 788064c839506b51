-- Segments, steps, lists of steps.
use Rattle.spec_values_kept.proofs.SegmentsHold.{segments_hold}
use Rattle.spec_values_kept.proofs.StepsHold.{steps_hold, lists_hold}
use Rattle.spec_values_kept.proofs.worlds.steps.Goals as goal

pub returns-clause-segments : goal.returns-clause-segments
returns-clause-segments c = segments_hold

pub returns-clause-steps : goal.returns-clause-steps
returns-clause-steps c = steps_hold

pub returns-clause-lists : goal.returns-clause-lists
returns-clause-lists c = lists_hold
