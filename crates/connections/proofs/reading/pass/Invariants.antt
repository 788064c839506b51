use Rattle.std.proofs.Common.{◌≡◌}
use Rattle.connections.specs.Lines.{lines_sent, SameSender}
use Rattle.connections.proofs.reading.pass.Given as goal

abbrev pub invariant-again : goal.invariant-again
invariant-again g l = SameSender l.fn.sender l.sender × (lines_sent l.sender ≡ lines_sent l.fn.sender) × (l.line ≡ l.fn.line)
