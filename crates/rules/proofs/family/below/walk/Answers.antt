use Rattle.std.proofs.Common.{◌≡◌, ◌+◌, ◌++◌, [], ◌∷◌, get_or, pos, refl, sym, ap, ◌∙◌, subst, arith, w32}
use Rattle.std.proofs.lemmas.Int.{to_z-of_z}
use Rattle.spec_world.specs.Questions.{children_at}
use Rattle.rules.proofs.Tellings.{known_on, told_as, told_before, told_on}
use Rattle.rules.specs.Below.{IsFamily, Walked, among}
use Rattle.rules.proofs.Walking.{walk_begins, walk_goes_on, walk_ends}
use Rattle.rules.proofs.family.below.walk.Goals as goal

pub loop-done-init : goal.loop-done-init
loop-done-init g c =
    let object = to_z-of_z w32 c.args.object c.ranges.object in
    record {
      anchor = refl;
      home = refl;
      there = c.requires.home;
      well_formed = c.requires.well_formed;
      left =
          rw object
          (told_before g.V.View.holds g.V.View.now c.args.view.now (λ w. Walked w c.args.object 0 c.push.new.self.items)
          (λ w is. subst (Walked (g.V.View.now c.args.view.now w) c.args.object 0) (sym ((rw object at c.in_ok-push.ensures.items) ∙ ap (λ xs. xs ++ c.args.object ∷ []) c.new-family.ensures.items)) (walk_begins (g.V.View.now c.args.view.now w) (c.requires.well_formed w is).objects c.args.object (c.requires.there w is))));
    }

pub returns-then-done-count-clause-left : goal.returns-then-done-count-clause-left
returns-then-done-count-clause-left g c =
    let object = to_z-of_z w32 c.args.object c.ranges.object in
    told_as g.V.View.holds g.V.View.now c.args.view.now c.loop-done.view (λ w. Walked w c.args.object c.loop-done.done c.loop-done.family.items) (λ w. IsFamily w c.args.object c.loop-done.family.items)
    c.requires.well_formed (rw object at c.loop-done.invariant.left) (λ w sound so. walk_ends w sound c.args.object c.loop-done.done c.loop-done.family.items (omega (arith, c.if-done-count.true)) so)

pub loop-done-preserved : goal.loop-done-preserved
loop-done-preserved g c =
    let object = to_z-of_z w32 c.args.object c.ranges.object in
    record {
      anchor = c.in_ok-add_children.ensures.lasts.anchor_stays ∙ c.loop-done.invariant.anchor;
      home = c.in_ok-add_children.ensures.lasts.home_stays ∙ c.loop-done.invariant.home;
      there = c.in_ok-add_children.ensures.lasts.home_is_left;
      well_formed =
          known_on g.V.View.holds g.V.View.now c.loop-done.view c.add_children.new.view
          (λ w. c.add_children.new.family.items ≡ c.loop-done.family.items ++ among (children_at w (get_or c.loop-done.family.items c.loop-done.done (pos 0)))) c.loop-done.invariant.well_formed
          c.in_ok-add_children.ensures.left;
      left =
          rw object
          (told_on g.V.View.holds g.V.View.now c.args.view.now c.loop-done.view c.add_children.new.view (λ w. Walked w c.args.object c.loop-done.done c.loop-done.family.items)
          (λ w. c.add_children.new.family.items ≡ c.loop-done.family.items ++ among (children_at w (get_or c.loop-done.family.items c.loop-done.done (pos 0))))
          (λ w. Walked w c.args.object (c.loop-done.done + 1) c.add_children.new.family.items)
          c.requires.well_formed (rw object at c.loop-done.invariant.left) c.in_ok-add_children.ensures.left
          (λ w sound so grown. walk_goes_on w sound c.args.object c.loop-done.done c.loop-done.family.items c.add_children.new.family.items (get_or c.loop-done.family.items c.loop-done.done (pos 0))
          (omega (arith, c.if-done-count.false)) refl so grown));
    }
