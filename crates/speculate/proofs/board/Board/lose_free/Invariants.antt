use Rattle.std.proofs.Common.{◌≡◌}
use Rattle.speculate.proofs.board.Board.lose_free.Given as goal

abbrev pub invariant-at : goal.invariant-at
invariant-at l = (l.self.base ≡ l.fn.self.base) × (l.self.steps ≡ l.fn.self.steps)
