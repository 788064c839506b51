-- Turns.
use Rattle.spec_holding.proofs.TurnsHold.{turns_hold}
use Rattle.spec_holding.proofs.turns.keeping.Goals as goal

pub returns : goal.returns
returns c = turns_hold
