use Rattle.std.proofs.Common.{◌≡◌, ℕ, ◌+◌, length}
use Rattle.speculate.specs.Progress.{Advances, ready, rest}
use Rattle.speculate.proofs.board.Board.advance.Given as goal

abbrev pub invariant-next : goal.invariant-next
invariant-next l =
    (k : ℕ) × Advances k l.fn.self l.self × (length l.self.outcomes ≡ k + l.from)
    × (k + ready (rest l.self) ≡ ready (rest l.fn.self))
    × (l.self.base ≡ l.fn.self.base) × (l.self.steps ≡ l.fn.self.steps)

abbrev pub decreases-next : goal.decreases-next
decreases-next l = ready (rest l.self)
