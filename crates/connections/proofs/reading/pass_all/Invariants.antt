use Rattle.connections.specs.Lines.{SameSender}
use Rattle.connections.proofs.reading.pass_all.Given as goal

abbrev pub invariant-event : goal.invariant-event
invariant-event g l = SameSender l.fn.sender l.sender
