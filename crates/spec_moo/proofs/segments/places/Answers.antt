use Rattle.spec_moo.proofs.TurnsStay.{turns_stay, starts_stand}
use Rattle.spec_moo.proofs.segments.places.Goals as goal

pub returns-clause-starts : goal.returns-clause-starts
returns-clause-starts c = starts_stand

pub returns-clause-turns : goal.returns-clause-turns
returns-clause-turns c = turns_stay
