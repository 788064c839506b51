use Rattle.speculate.specs.BoardState.{world_after}
use Rattle.speculate.proofs.crew.guess_and_hand_in.Goals as goal

pub hand_in-requires-after_bounds : goal.hand_in-requires-after_bounds
hand_in-requires-after_bounds g c κs within = c.guess_on-seen.ensures.found (world_after g.J.Run.base.plain g.J.Run.steps) c.requires.sight
