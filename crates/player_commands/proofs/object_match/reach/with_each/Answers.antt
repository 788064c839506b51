use Rattle.std.proofs.Common.{◌≡◌, pos, ◌+◌, get_or, drop, refl, ◌∙◌, rules, w32, to_z, of_z}
use Rattle.rules.proofs.Tellings.{known_on, told_as, told_before, told_on}
use Rattle.player_commands.specs.Fits.{object_fit, with_objects}
use Rattle.player_commands.proofs.NamingRules.{each_next, each_done}
use Rattle.player_commands.proofs.object_match.reach.with_each.Goals as goal

pub loop-object-init : goal.loop-object-init
loop-object-init g c = record {
  anchor = refl;
  home = refl;
  there = c.requires.home;
  well_formed = c.requires.well_formed;
  left =
      told_before g.V.View.holds g.V.View.now c.args.view.now
      (λ w. with_objects w c.args.text.now c.args.matches c.args.objects.now ≡ with_objects w c.args.text.now c.args.matches c.args.objects.now) (λ w is. refl);
}

pub loop-object-preserved : goal.loop-object-preserved
loop-object-preserved g c =
    let item : to_z w32 (of_z w32 (get_or c.args.objects.now c.loop-object.object-index (pos 0))) ≡ get_or c.args.objects.now c.loop-object.object-index (pos 0) = search rules in
    record {
      anchor = c.in_ok-fit.ensures.lasts.anchor_stays ∙ c.loop-object.invariant.anchor;
      home = c.in_ok-fit.ensures.lasts.home_stays ∙ c.loop-object.invariant.home;
      there = c.in_ok-fit.ensures.lasts.home_is_left;
      well_formed =
          known_on g.V.View.holds g.V.View.now c.loop-object.view c.fit_of.new.view
          (λ w. object_fit w c.args.text.now (get_or c.args.objects.now c.loop-object.object-index (pos 0)) ≡ c.in_ok-fit.fit) c.loop-object.invariant.well_formed (rw item at c.in_ok-fit.ensures.left);
      left =
          told_on g.V.View.holds g.V.View.now c.args.view.now c.loop-object.view c.fit_of.new.view
          (λ w. with_objects w c.args.text.now c.loop-object.found (drop c.loop-object.object-index c.args.objects.now) ≡ with_objects w c.args.text.now c.args.matches c.args.objects.now)
          (λ w. object_fit w c.args.text.now (get_or c.args.objects.now c.loop-object.object-index (pos 0)) ≡ c.in_ok-fit.fit)
          (λ w. with_objects w c.args.text.now c.with_object-found.result (drop (c.loop-object.object-index + 1) c.args.objects.now) ≡ with_objects w c.args.text.now c.args.matches c.args.objects.now)
          c.requires.well_formed c.loop-object.invariant.left (rw item at c.in_ok-fit.ensures.left)
          (λ w sound so is. each_next w c.args.text.now c.loop-object.found c.with_object-found.result c.in_ok-fit.fit c.args.objects.now c.loop-object.object-index
          (with_objects w c.args.text.now c.args.matches c.args.objects.now) c.loop-object-test.true (rw item at c.with_object-found.ensures) so is);
    }

pub returns-clause-left : goal.returns-clause-left
returns-clause-left g c =
    told_as g.V.View.holds g.V.View.now c.args.view.now c.loop-object.view
    (λ w. with_objects w c.args.text.now c.loop-object.found (drop c.loop-object.object-index c.args.objects.now) ≡ with_objects w c.args.text.now c.args.matches c.args.objects.now)
    (λ w. with_objects w c.args.text.now c.args.matches c.args.objects.now ≡ c.loop-object.found)
    c.requires.well_formed c.loop-object.invariant.left
    (λ w sound so. each_done w c.args.text.now c.loop-object.found c.args.objects.now c.loop-object.object-index (with_objects w c.args.text.now c.args.matches c.args.objects.now) c.loop-object-test.false so)
