use Rattle.std.proofs.Common.{◌≡◌, All, vec_len}
use Rattle.speculate.specs.BoardState.{world_after}
use Rattle.speculate.proofs.board.Board.post_all.Given as goal

abbrev pub invariant-found : goal.invariant-found
invariant-found l =
    All (λ f. f.1.before ≡ world_after l.fn.self.base.plain l.fn.self.steps l.seen) l.found.items
    × (l.self.base ≡ l.fn.self.base)
    × (l.self.steps ≡ l.fn.self.steps)

abbrev pub decreases-found : goal.decreases-found
decreases-found l = vec_len l.found
