use Rattle.std.proofs.Common.{◌≡◌, ◌-◌, length, IfSome}
use Rattle.speculate.specs.BoardState.{world_after}
use Rattle.speculate.proofs.crew.work.Given as goal

abbrev pub invariant-claim : goal.invariant-claim
invariant-claim g l = (l.seat.offer ≡ l.claims) × IfSome l.sight (λ s. s.snapshot ≡ world_after g.J.Run.base.plain g.J.Run.steps s.count)

abbrev pub decreases-claim : goal.decreases-claim
decreases-claim g l = l.claims.positions - length l.seat.claimed
