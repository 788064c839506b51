use Rattle.std.proofs.Common.{sym, subst}
use Rattle.spec_world.specs.World.{World}
use Rattle.view.specs.Sound.{IsSound}
use Rattle.world.proofs.worlds.World.prepare.Goals as goal

pub invariant_of-result : goal.invariant_of-result
invariant_of-result c = subst (λ (w : World). IsSound w) (sym c.in_ok-draft.ensures) c.requires
