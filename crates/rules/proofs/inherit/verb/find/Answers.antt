use Rattle.std.proofs.Common.{◌≡◌, Some, None, refl, ◌∙◌, rules, w32, to_z, of_z}
use Rattle.std.proofs.lemmas.Int.{to_z-of_z}
use Rattle.spec_world.specs.World.{object_at}
use Rattle.spec_world.specs.Inherit.{ancestors}
use Rattle.spec_world.specs.VerbsSought.{first_on, own_first}
use Rattle.rules.specs.Lines.{IsAbove, from}
use Rattle.rules.specs.Sought.{passes}
use Rattle.rules.proofs.Walks.{found_on, not_found_on, nobody_found, nearer}
use Rattle.rules.proofs.Tellings.{known_on, told_as, told_before, told_on, nearer_told}
use Rattle.rules.proofs.inherit.verb.find.Goals as goal

pub returns-in-Some-2-clause-left : goal.returns-in-Some-2-clause-left
returns-in-Some-2-clause-left g c =
    let object = to_z-of_z w32 c.args.object c.ranges.object in
    let at : to_z w32 (of_z w32 c.in-Some.at) ≡ c.in-Some.at = search rules in
    told_on g.V.View.holds g.V.View.now c.args.view.now c.loop-next.view c.own_verb.new.view
    (λ w. first_on w (passes c.args.purpose.now c.args.word.now) (ancestors w c.args.object) ≡ first_on w (passes c.args.purpose.now c.args.word.now) (from w (Some c.in-Some.at)))
    (λ w. own_first c.in-Some.at (passes c.args.purpose.now c.args.word.now) (object_at w c.in-Some.at) ≡ Some c.in-Some-2.found)
    (λ w. first_on w (passes c.args.purpose.now c.args.word.now) (ancestors w c.args.object) ≡ Some c.in-Some-2.found)
    c.requires.well_formed (rw (c.in-Some.is, object) at c.loop-next.invariant.left) (rw (c.in-Some-2.is, at) at c.in_ok-found.ensures.left)
    (λ w sound so is. found_on w (passes c.args.purpose.now c.args.word.now) c.in-Some.at c.in-Some-2.found (first_on w (passes c.args.purpose.now c.args.word.now) (ancestors w c.args.object)) sound so is)

pub loop-next-smaller : goal.loop-next-smaller
loop-next-smaller g c =
    let at : to_z w32 (of_z w32 c.in-Some.at) ≡ c.in-Some.at = search rules in
    rw c.in-Some.is (nearer_told g.V.View.holds g.V.View.now g.V.View.home c.loop-next.view c.parent.new.view (λ w. IsAbove w c.in-Some.at c.in_ok-next.next) c.in_ok-next.next (Some c.in-Some.at)
    c.loop-next.invariant.well_formed
    (told_on g.V.View.holds g.V.View.now c.loop-next.view c.own_verb.new.view c.parent.new.view (λ w. own_first c.in-Some.at (passes c.args.purpose.now c.args.word.now) (object_at w c.in-Some.at) ≡ c.in_ok-found.field-0)
    (λ w. IsAbove w c.in-Some.at c.in_ok-next.next) (λ w. IsAbove w c.in-Some.at c.in_ok-next.next)
    c.loop-next.invariant.well_formed (rw at at c.in_ok-found.ensures.left) (rw at at c.in_ok-next.ensures.left) (λ w sound is up. up))
    c.in_ok-next.ensures.lasts.home_is_left (c.in_ok-next.ensures.lasts.home_stays ∙ c.in_ok-found.ensures.lasts.home_stays)
    (λ w sound up. nearer w c.in-Some.at c.in_ok-next.next up))

pub loop-next-preserved : goal.loop-next-preserved
loop-next-preserved g c =
    let object = to_z-of_z w32 c.args.object c.ranges.object in
    let at : to_z w32 (of_z w32 c.in-Some.at) ≡ c.in-Some.at = search rules in
    let none : c.in_ok-found.field-0 ≡ None = search rules in
    record {
      anchor = c.in_ok-next.ensures.lasts.anchor_stays ∙ c.in_ok-found.ensures.lasts.anchor_stays ∙ c.loop-next.invariant.anchor;
      home = c.in_ok-next.ensures.lasts.home_stays ∙ c.in_ok-found.ensures.lasts.home_stays ∙ c.loop-next.invariant.home;
      there = c.in_ok-next.ensures.lasts.home_is_left;
      well_formed =
          known_on g.V.View.holds g.V.View.now c.own_verb.new.view c.parent.new.view (λ w. IsAbove w c.in-Some.at c.in_ok-next.next)
          (known_on g.V.View.holds g.V.View.now c.loop-next.view c.own_verb.new.view (λ w. own_first c.in-Some.at (passes c.args.purpose.now c.args.word.now) (object_at w c.in-Some.at) ≡ c.in_ok-found.field-0) c.loop-next.invariant.well_formed (rw at at c.in_ok-found.ensures.left))
          (rw at at c.in_ok-next.ensures.left);
      left =
          rw object (told_on g.V.View.holds g.V.View.now c.args.view.now c.own_verb.new.view c.parent.new.view
          (λ w. (first_on w (passes c.args.purpose.now c.args.word.now) (ancestors w c.args.object) ≡ first_on w (passes c.args.purpose.now c.args.word.now) (from w (Some c.in-Some.at))) × (own_first c.in-Some.at (passes c.args.purpose.now c.args.word.now) (object_at w c.in-Some.at) ≡ None))
          (λ w. IsAbove w c.in-Some.at c.in_ok-next.next)
          (λ w. first_on w (passes c.args.purpose.now c.args.word.now) (ancestors w c.args.object) ≡ first_on w (passes c.args.purpose.now c.args.word.now) (from w c.in_ok-next.next)) c.requires.well_formed
          (told_on g.V.View.holds g.V.View.now c.args.view.now c.loop-next.view c.own_verb.new.view
          (λ w. first_on w (passes c.args.purpose.now c.args.word.now) (ancestors w c.args.object) ≡ first_on w (passes c.args.purpose.now c.args.word.now) (from w (Some c.in-Some.at)))
          (λ w. own_first c.in-Some.at (passes c.args.purpose.now c.args.word.now) (object_at w c.in-Some.at) ≡ None)
          (λ w. (first_on w (passes c.args.purpose.now c.args.word.now) (ancestors w c.args.object) ≡ first_on w (passes c.args.purpose.now c.args.word.now) (from w (Some c.in-Some.at))) × (own_first c.in-Some.at (passes c.args.purpose.now c.args.word.now) (object_at w c.in-Some.at) ≡ None))
          c.requires.well_formed (rw (c.in-Some.is, object) at c.loop-next.invariant.left) (rw (none, at) at c.in_ok-found.ensures.left) (λ w sound so is. (so, is)))
          (rw at at c.in_ok-next.ensures.left)
          (λ w sound so up. not_found_on w (passes c.args.purpose.now c.args.word.now) c.in-Some.at c.in_ok-next.next (first_on w (passes c.args.purpose.now c.args.word.now) (ancestors w c.args.object)) sound so.0 so.1 up));
    }

pub loop-next-init : goal.loop-next-init
loop-next-init g c =
    let object = to_z-of_z w32 c.args.object c.ranges.object in
    record {
      anchor = refl;
      home = refl;
      there = c.requires.home;
      well_formed = c.requires.well_formed;
      left =
          told_before g.V.View.holds g.V.View.now c.args.view.now
          (λ w. first_on w (passes c.args.purpose.now c.args.word.now) (ancestors w (to_z w32 (of_z w32 c.args.object))) ≡ first_on w (passes c.args.purpose.now c.args.word.now) (ancestors w (to_z w32 (of_z w32 c.args.object)))) (λ w is. refl);
    }

pub returns-clause-left : goal.returns-clause-left
returns-clause-left g c =
    let object = to_z-of_z w32 c.args.object c.ranges.object in
    let none : c.loop-next.next ≡ None = search rules in
    told_as g.V.View.holds g.V.View.now c.args.view.now c.loop-next.view
    (λ w. first_on w (passes c.args.purpose.now c.args.word.now) (ancestors w c.args.object) ≡ first_on w (passes c.args.purpose.now c.args.word.now) (from w None)) (λ w. first_on w (passes c.args.purpose.now c.args.word.now) (ancestors w c.args.object) ≡ None)
    c.requires.well_formed (rw (none, object) at c.loop-next.invariant.left) (λ w sound so. so ∙ nobody_found w (passes c.args.purpose.now c.args.word.now))
