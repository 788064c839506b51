use Rattle.std.proofs.Common.{false, sym, subst}
use Rattle.spec_world.specs.World.{World}
use Rattle.view.specs.Sound.{IsSound}
use Rattle.world.proofs.Settled.{settled_is_sound}
use Rattle.world.proofs.worlds.World.reopen.Goals as goal

pub invariant_of-self : goal.invariant_of-self
invariant_of-self c = subst (λ (w : World). IsSound w) (sym c.reopen.ensures) (settled_is_sound _ false c.self.invariant)
