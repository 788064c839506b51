use Rattle.std.proofs.Common.{◌≡◌, IfSome}
use Rattle.speculate.specs.BoardState.{world_after}
use Rattle.speculate.proofs.crew.play_batch.Given as goal

abbrev pub invariant-help : goal.invariant-help
invariant-help g l = IfSome l.sight (λ s. s.snapshot ≡ world_after g.J.Run.base.plain g.J.Run.steps s.count)
