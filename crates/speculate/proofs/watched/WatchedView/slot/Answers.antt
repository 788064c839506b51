use Rattle.std.proofs.Common.{◌≡◌, sym, subst, w32}
use Rattle.std.proofs.lemmas.Int.{to_z-of_z}
use Rattle.spec_world.specs.World.{World}
use Rattle.spec_world.specs.Questions.{about_slot}
use Rattle.view.specs.Sound.{IsSound}
use Rattle.spec_world.specs.Inherit.{slot_at}
use Rattle.view.specs.Law.{Tells}
use Rattle.world.specs.Trace.{Trace, IsStart, world_now}
use Rattle.speculate.proofs.Stamped.{covers_more}
use Rattle.speculate.proofs.watched.WatchedView.slot.Goals as goal

pub invariant_of-self-2 : goal.invariant_of-self-2
invariant_of-self-2 c =
    let object = to_z-of_z w32 c.args.object c.ranges.object in (
      subst (λ (v : World). IsSound v) (sym c.slot.ensures.lasts.home_stays) c.self.invariant.0,
      λ e. covers_more c.self.inside.view c.slot.new.self c.self.inside.slots c.add.new.self (about_slot c.args.object c.args.name.now) c.self.invariant.0 c.slot.ensures.lasts.home_stays
          (c.self.invariant.1 e) c.add.ensures.stays (rw object at c.add.ensures.there) (rw object at c.in_ok-slot.ensures.kept),
    )

pub returns-clause-left : goal.returns-clause-left
returns-clause-left c =
    let object = to_z-of_z w32 c.args.object c.ranges.object in
    subst (λ (t : Trace). Tells IsStart world_now t c.slot.new.self (λ w. slot_at w c.args.object c.args.name.now ≡ c.in_ok-slot.slot)) c.self.view_is (rw object at c.in_ok-slot.ensures.left)
