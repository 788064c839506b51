use Rattle.std.proofs.Common.{◌≡◌, ◌+◌, false, drop, get_or, pos, ◌∙◌, rules, w32, to_z, of_z}
use Rattle.std.proofs.lemmas.Int.{to_z-of_z}
use Rattle.spec_world.specs.Questions.{defines_at}
use Rattle.builtins_view.specs.Clashes.{any_slot, any_clashes}
use Rattle.builtins_view.proofs.Steps.{clashes_step, both_told}
use Rattle.builtins_view.proofs.reparenting.clashes.any_clashes.Goals as goal

pub loop-object-preserved : goal.loop-object-preserved
loop-object-preserved g c =
    let parent = to_z-of_z w32 c.args.parent c.ranges.parent in
    let item : to_z w32 (of_z w32 (get_or c.args.family.now c.loop-object.object-index (pos 0))) ≡ get_or c.args.family.now c.loop-object.object-index (pos 0) = search rules in
    rw parent
    (record {
      anchor = c.in_ok-found.ensures.lasts.anchor_stays ∙ c.loop-object.invariant.anchor;
      home = c.in_ok-found.ensures.lasts.home_stays ∙ c.loop-object.invariant.home;
      there = c.in_ok-found.ensures.lasts.home_is_left;
      left =
          both_told g.V.View.holds g.V.View.now c.args.view.now c.loop-object.view c.clashes.new.view
          (λ w. any_clashes w c.args.parent (drop c.loop-object.object-index c.args.family.now) ≡ any_clashes w c.args.parent c.args.family.now)
          (λ w. any_slot w c.args.parent (defines_at w (get_or c.args.family.now c.loop-object.object-index (pos 0))) ≡ false)
          (λ w. any_clashes w c.args.parent (drop (c.loop-object.object-index + 1) c.args.family.now) ≡ any_clashes w c.args.parent c.args.family.now)
          (rw parent at c.loop-object.invariant.left) (rw (item, parent, c.if-found.false) at c.in_ok-found.ensures.left)
          (λ w so none. clashes_step w c.args.parent c.args.family.now c.loop-object.object-index c.loop-object-test.true so none);
    })
