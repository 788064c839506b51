use Rattle.std.proofs.Common.{◌≡◌, ◌+◌, drop, get_or, pos, ◌∙◌, rules, w32, to_z, of_z}
use Rattle.std.proofs.lemmas.Int.{to_z-of_z}
use Rattle.builtins.proofs.Gone.{well_after, has_after, each_after, has_next, each_next}
use Rattle.builtins.proofs.builtins_objects.recycling.raise_children.Goals as goal

pub loop-child-preserved : goal.loop-child-preserved
loop-child-preserved g c =
    let object = to_z-of_z w32 c.args.object c.ranges.object in
    let parent = to_z-of_z w32 c.args.parent c.ranges.parent in
    let item : to_z w32 (of_z w32 (get_or c.args.children.now c.loop-child.child-index (pos 0))) ≡ get_or c.args.children.now c.loop-child.child-index (pos 0) = search rules in
    let has = has_next g.V.View.holds g.V.View.now c.loop-child.view c.args.object c.args.parent c.args.children.now c.loop-child.child-index c.loop-child-test.true (rw (object, parent) at c.loop-child.invariant.known) in
    let each = each_next g.V.View.holds g.V.View.now c.args.view.now c.loop-child.view c.args.parent c.args.children.now c.loop-child.child-index c.loop-child-test.true (rw parent at c.loop-child.invariant.left) in
    let told = rw (object, parent, item) at c.in_ok-raise_child.ensures.left in
    rw (object, parent)
    (record {
      anchor = c.in_ok-raise_child.ensures.lasts.anchor_stays ∙ c.loop-child.invariant.anchor;
      home = c.in_ok-raise_child.ensures.lasts.home_stays ∙ c.loop-child.invariant.home;
      there = c.in_ok-raise_child.ensures.lasts.home_is_left;
      well_formed =
          well_after g.V.View.holds g.V.View.now c.loop-child.view c.raise_child.new.view c.args.object c.args.parent (get_or c.args.children.now c.loop-child.child-index (pos 0))
          (drop (c.loop-child.child-index + 1) c.args.children.now) c.loop-child.invariant.well_formed has told;
      known =
          has_after g.V.View.holds g.V.View.now c.loop-child.view c.raise_child.new.view c.args.object c.args.parent (get_or c.args.children.now c.loop-child.child-index (pos 0))
          (drop (c.loop-child.child-index + 1) c.args.children.now) c.loop-child.invariant.well_formed has told;
      left =
          each_after g.V.View.holds g.V.View.now c.loop-child.view c.raise_child.new.view c.args.object c.args.parent (get_or c.args.children.now c.loop-child.child-index (pos 0))
          (drop (c.loop-child.child-index + 1) c.args.children.now) c.loop-child.invariant.well_formed has told c.args.view.now c.args.children.now each;
    })
