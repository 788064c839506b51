use Rattle.std.proofs.Common.{sym, subst}
use Rattle.spec_world.specs.World.{World}
use Rattle.view.specs.Sound.{IsSound}
use Rattle.speculate.proofs.Stamped.{covers_still}
use Rattle.speculate.proofs.watched.WatchedView.put.Goals as goal

pub invariant_of-self-2 : goal.invariant_of-self-2
invariant_of-self-2 c = (
  subst (λ (v : World). IsSound v) (sym c.put.ensures.lasts.home_stays) c.self.invariant.0,
  λ e. covers_still c.self.inside.view c.put.new.self c.self.inside.slots c.put.ensures.lasts.home_stays (c.self.invariant.1 e) c.in_ok-put.ensures.kept,
)
