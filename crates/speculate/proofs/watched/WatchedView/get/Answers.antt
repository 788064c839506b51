use Rattle.std.proofs.Common.{◌∙◌, sym, subst}
use Rattle.spec_world.specs.World.{World}
use Rattle.view.specs.Sound.{IsSound}
use Rattle.view.specs.Meanings.{question_of}
use Rattle.speculate.proofs.Stamped.{covers_more}
use Rattle.speculate.proofs.watched.WatchedView.get.Goals as goal

pub invariant_of-self-2 : goal.invariant_of-self-2
invariant_of-self-2 c = (
  subst (λ (v : World). IsSound v) (sym c.get.ensures.lasts.home_stays) c.self.invariant.0,
  λ e. covers_more c.self.inside.view c.get.new.self c.self.inside.slots c.watch.new.self (question_of c.args.question.now) c.self.invariant.0 c.get.ensures.lasts.home_stays
      (c.self.invariant.1 e) c.watch.ensures.stays c.watch.ensures.covered (λ w h a b. c.in_ok-answer.ensures.kept w h a (b ∙ sym c.in_ok-answer.ensures.answer)),
)
