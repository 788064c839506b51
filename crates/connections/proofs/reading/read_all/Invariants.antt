use Rattle.connections.specs.Lines.{SameSender}
use Rattle.connections.proofs.reading.read_all.Given as goal

abbrev pub invariant-piece : goal.invariant-piece
invariant-piece g l = SameSender l.fn.sender l.sender
