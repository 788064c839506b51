use Rattle.std.proofs.Common.{Option, refl, subst, unwrap_or}
use Rattle.spec_world.specs.World.{World}
use Rattle.view.specs.Sound.{IsSound}
use Rattle.world.proofs.fork.Forked+Draft.keep.Goals as goal

pub replace-requires : goal.replace-requires
replace-requires c = subst (λ (o : Option World). IsSound (unwrap_or o c.args.self.world.now.plain)) c.in-Some.is (c.requires _ refl)
