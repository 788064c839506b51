-- Turns and segments.
use Rattle.spec_moo.proofs.TurnWorlds.{turns_keep}
use Rattle.spec_moo.proofs.SegmentWorlds.{segments_keep}
use Rattle.spec_moo.proofs.worlds.tasks.Goals as goal

pub returns-clause-turns : goal.returns-clause-turns
returns-clause-turns c = λ k. turns_keep k

pub returns-clause-segments : goal.returns-clause-segments
returns-clause-segments c = λ k. segments_keep k
