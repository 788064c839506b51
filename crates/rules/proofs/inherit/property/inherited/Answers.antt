use Rattle.std.proofs.Common.{◌≡◌, Some, None, drop, ◌∙◌, rules, w32, to_z, of_z}
use Rattle.std.proofs.lemmas.Int.{to_z-of_z}
use Rattle.spec_world.specs.Inherit.{ancestors, slot_at, first_value}
use Rattle.rules.specs.Lines.{IsAbove, from}
use Rattle.rules.proofs.Walks.{settled_on, clear_on, above_value, none_from, nearer}
use Rattle.rules.proofs.Tellings.{known_on, told_as, told_on, nearer_told}
use Rattle.rules.proofs.inherit.property.inherited.Goals as goal

pub returns-in-Settled-clause-left : goal.returns-in-Settled-clause-left
returns-in-Settled-clause-left g c =
    let object = to_z-of_z w32 c.args.object c.ranges.object in
    let at : to_z w32 (of_z w32 c.in-Some.at) ≡ c.in-Some.at = search rules in
    told_on g.V.View.holds g.V.View.now c.args.view.now c.loop-next.view c.read_slot.new.view
    (λ w. first_value w (drop 1 (ancestors w c.args.object)) c.args.name.now ≡ first_value w (from w (Some c.in-Some.at)) c.args.name.now) (λ w. slot_at w c.in-Some.at c.args.name.now ≡ c.in_ok-slot.slot)
    (λ w. first_value w (drop 1 (ancestors w c.args.object)) c.args.name.now ≡ c.in-Settled.value)
    c.requires.well_formed (rw (c.in-Some.is, object) at c.loop-next.invariant.left) (rw at at c.in_ok-slot.ensures.left)
    (λ w sound so is. settled_on w c.in-Some.at c.args.name.now c.in_ok-slot.slot c.in-Settled.value (first_value w (drop 1 (ancestors w c.args.object)) c.args.name.now) sound so is (rw c.in-Settled.is at c.in_ok-own.ensures))

pub parent-requires-in-Clear : goal.parent-requires-in-Clear
parent-requires-in-Clear g c =
    let at : to_z w32 (of_z w32 c.in-Some.at) ≡ c.in-Some.at = search rules in
    known_on g.V.View.holds g.V.View.now c.loop-next.view c.read_slot.new.view (λ w. slot_at w c.in-Some.at c.args.name.now ≡ c.in_ok-slot.slot) c.loop-next.invariant.well_formed (rw at at c.in_ok-slot.ensures.left)

pub loop-next-smaller : goal.loop-next-smaller
loop-next-smaller g c =
    let at : to_z w32 (of_z w32 c.in-Some.at) ≡ c.in-Some.at = search rules in
    rw c.in-Some.is (nearer_told g.V.View.holds g.V.View.now g.V.View.home c.loop-next.view c.parent-in-Clear.new.view (λ w. IsAbove w c.in-Some.at c.in_ok-next-in-Clear.next) c.in_ok-next-in-Clear.next (Some c.in-Some.at)
    c.loop-next.invariant.well_formed
    (told_on g.V.View.holds g.V.View.now c.loop-next.view c.read_slot.new.view c.parent-in-Clear.new.view (λ w. slot_at w c.in-Some.at c.args.name.now ≡ c.in_ok-slot.slot)
    (λ w. IsAbove w c.in-Some.at c.in_ok-next-in-Clear.next) (λ w. IsAbove w c.in-Some.at c.in_ok-next-in-Clear.next)
    c.loop-next.invariant.well_formed (rw at at c.in_ok-slot.ensures.left) (rw at at c.in_ok-next-in-Clear.ensures.left) (λ w sound is up. up))
    c.in_ok-next-in-Clear.ensures.lasts.home_is_left (c.in_ok-next-in-Clear.ensures.lasts.home_stays ∙ c.in_ok-slot.ensures.lasts.home_stays)
    (λ w sound up. nearer w c.in-Some.at c.in_ok-next-in-Clear.next up))

pub loop-next-preserved : goal.loop-next-preserved
loop-next-preserved g c =
    let object = to_z-of_z w32 c.args.object c.ranges.object in
    let at : to_z w32 (of_z w32 c.in-Some.at) ≡ c.in-Some.at = search rules in
    record {
      anchor = c.in_ok-next-in-Clear.ensures.lasts.anchor_stays ∙ c.in_ok-slot.ensures.lasts.anchor_stays ∙ c.loop-next.invariant.anchor;
      home = c.in_ok-next-in-Clear.ensures.lasts.home_stays ∙ c.in_ok-slot.ensures.lasts.home_stays ∙ c.loop-next.invariant.home;
      there = c.in_ok-next-in-Clear.ensures.lasts.home_is_left;
      well_formed =
          known_on g.V.View.holds g.V.View.now c.read_slot.new.view c.parent-in-Clear.new.view (λ w. IsAbove w c.in-Some.at c.in_ok-next-in-Clear.next)
          (known_on g.V.View.holds g.V.View.now c.loop-next.view c.read_slot.new.view (λ w. slot_at w c.in-Some.at c.args.name.now ≡ c.in_ok-slot.slot) c.loop-next.invariant.well_formed (rw at at c.in_ok-slot.ensures.left))
          (rw at at c.in_ok-next-in-Clear.ensures.left);
      left =
          rw object (told_on g.V.View.holds g.V.View.now c.args.view.now c.read_slot.new.view c.parent-in-Clear.new.view
          (λ w. first_value w (drop 1 (ancestors w c.args.object)) c.args.name.now ≡ first_value w (drop 1 (ancestors w c.in-Some.at)) c.args.name.now) (λ w. IsAbove w c.in-Some.at c.in_ok-next-in-Clear.next)
          (λ w. first_value w (drop 1 (ancestors w c.args.object)) c.args.name.now ≡ first_value w (from w c.in_ok-next-in-Clear.next) c.args.name.now) c.requires.well_formed
          (told_on g.V.View.holds g.V.View.now c.args.view.now c.loop-next.view c.read_slot.new.view
          (λ w. first_value w (drop 1 (ancestors w c.args.object)) c.args.name.now ≡ first_value w (from w (Some c.in-Some.at)) c.args.name.now) (λ w. slot_at w c.in-Some.at c.args.name.now ≡ c.in_ok-slot.slot)
          (λ w. first_value w (drop 1 (ancestors w c.args.object)) c.args.name.now ≡ first_value w (drop 1 (ancestors w c.in-Some.at)) c.args.name.now)
          c.requires.well_formed (rw (c.in-Some.is, object) at c.loop-next.invariant.left) (rw at at c.in_ok-slot.ensures.left)
          (λ w sound so is. clear_on w c.in-Some.at c.args.name.now c.in_ok-slot.slot (first_value w (drop 1 (ancestors w c.args.object)) c.args.name.now) sound so is (rw c.in-Clear.is at c.in_ok-own.ensures)))
          (rw at at c.in_ok-next-in-Clear.ensures.left) (λ w sound so up. so ∙ above_value w c.in-Some.at c.args.name.now c.in_ok-next-in-Clear.next up));
    }

pub loop-next-init : goal.loop-next-init
loop-next-init g c =
    let object = to_z-of_z w32 c.args.object c.ranges.object in
    record {
      anchor = c.in_ok-next.ensures.lasts.anchor_stays;
      home = c.in_ok-next.ensures.lasts.home_stays;
      there = c.in_ok-next.ensures.lasts.home_is_left;
      well_formed = known_on g.V.View.holds g.V.View.now c.args.view.now c.parent.new.view (λ w. IsAbove w c.args.object c.in_ok-next.next) c.requires.well_formed (rw object at c.in_ok-next.ensures.left);
      left =
          rw object (told_as g.V.View.holds g.V.View.now c.args.view.now c.parent.new.view (λ w. IsAbove w c.args.object c.in_ok-next.next)
          (λ w. first_value w (drop 1 (ancestors w c.args.object)) c.args.name.now ≡ first_value w (from w c.in_ok-next.next) c.args.name.now)
          c.requires.well_formed (rw object at c.in_ok-next.ensures.left) (λ w sound up. above_value w c.args.object c.args.name.now c.in_ok-next.next up));
    }

pub returns-clause-left : goal.returns-clause-left
returns-clause-left g c =
    let object = to_z-of_z w32 c.args.object c.ranges.object in
    let none : c.loop-next.next ≡ None = search rules in
    told_as g.V.View.holds g.V.View.now c.args.view.now c.loop-next.view
    (λ w. first_value w (drop 1 (ancestors w c.args.object)) c.args.name.now ≡ first_value w (from w None) c.args.name.now) (λ w. first_value w (drop 1 (ancestors w c.args.object)) c.args.name.now ≡ None)
    c.requires.well_formed (rw (none, object) at c.loop-next.invariant.left) (λ w sound so. so ∙ none_from w c.args.name.now)
