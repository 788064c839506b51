-- Turns and segments.
use Rattle.spec_moo.proofs.OrderKept.{turns_keep_order, segments_keep_order}
use Rattle.spec_moo.proofs.variables.turns.Goals as goal

pub returns-clause-turns : goal.returns-clause-turns
returns-clause-turns c = turns_keep_order

pub returns-clause-segments : goal.returns-clause-segments
returns-clause-segments c = segments_keep_order
