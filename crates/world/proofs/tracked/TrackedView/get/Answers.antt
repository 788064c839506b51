use Rattle.view.specs.Meanings.{answer_of}
use Rattle.world.proofs.Goings.{goes_if_told}
use Rattle.world.proofs.tracked.TrackedView.get.Goals as goal

pub returns-then-is_listed-clause-left : goal.returns-then-is_listed-clause-left
returns-then-is_listed-clause-left c = goes_if_told answer_of c.listed.result _ _ _ c.listed.ensures.known.0 c.listed.ensures.told c.listed.ensures.answer

pub returns-else-is_listed-clause-left : goal.returns-else-is_listed-clause-left
returns-else-is_listed-clause-left c = goes_if_told answer_of c.looked_up.result _ _ _ c.looked_up.ensures.known.0 c.looked_up.ensures.told c.looked_up.ensures.answer
