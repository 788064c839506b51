use Rattle.view.specs.Meanings.{answer_of}
use Rattle.world.proofs.Goings.{goes_if_told}
use Rattle.world.proofs.marking.MarkingView.get.Goals as goal

pub returns-clause-left : goal.returns-clause-left
returns-clause-left c = goes_if_told answer_of c.looked_up.result _ _ _ c.looked_up.ensures.known.0 c.looked_up.ensures.told c.looked_up.ensures.answer
