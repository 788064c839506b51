use Rattle.speculate.specs.Progress.{SameRun}
use Rattle.speculate.proofs.Rests.{Full}
use Rattle.speculate.proofs.board.Board.lose_rest.Given as goal

abbrev pub invariant-rest : goal.invariant-rest
invariant-rest l = SameRun l.fn.self l.self × Full l.from l.at l.self
