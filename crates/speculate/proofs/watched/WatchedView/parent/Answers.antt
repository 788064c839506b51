use Rattle.std.proofs.Common.{◌≡◌, sym, subst, w32, option_map}
use Rattle.std.proofs.lemmas.Int.{to_z-of_z}
use Rattle.spec_world.specs.World.{World}
use Rattle.spec_world.specs.Questions.{about_header, header_at}
use Rattle.view.specs.Sound.{IsSound}
use Rattle.view.specs.Law.{Tells}
use Rattle.world.specs.Trace.{Trace, IsStart, world_now}
use Rattle.speculate.proofs.Stamped.{covers_more}
use Rattle.speculate.proofs.watched.WatchedView.parent.Goals as goal

pub invariant_of-self-2 : goal.invariant_of-self-2
invariant_of-self-2 c =
    let object = to_z-of_z w32 c.args.object c.ranges.object in (
      subst (λ (v : World). IsSound v) (sym c.parent.ensures.lasts.home_stays) c.self.invariant.0,
      λ e. covers_more c.self.inside.view c.parent.new.self c.self.inside.slots c.self.inside.slots (about_header c.args.object) c.self.invariant.0 c.parent.ensures.lasts.home_stays
          (c.self.invariant.1 e) (λ o h. h) tt (rw object at c.in_ok-parent.ensures.kept),
    )

pub returns-clause-left : goal.returns-clause-left
returns-clause-left c =
    let object = to_z-of_z w32 c.args.object c.ranges.object in
    subst (λ (t : Trace). Tells IsStart world_now t c.parent.new.self (λ w. option_map (λ h. h.parent) (header_at w c.args.object) ≡ c.in_ok-parent.parent)) c.self.view_is (rw object at c.in_ok-parent.ensures.left)
