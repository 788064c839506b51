use Rattle.std.proofs.Common.{◌≡◌, pos, get_or, ◌∙◌, rules, w32, to_z, of_z}
use Rattle.std.proofs.lemmas.Int.{to_z-of_z}
use Rattle.builtins.proofs.Seeing.{saw_one, saw_all}
use Rattle.builtins.proofs.builtins_queue.listing.seen.Goals as goal

pub loop-id-preserved : goal.loop-id-preserved
loop-id-preserved g c =
    let item : to_z w32 (of_z w32 (get_or c.args.ids.now c.loop-id.id-index (pos 0))) ≡ get_or c.args.ids.now c.loop-id.id-index (pos 0) = search rules in
    let programmer = to_z-of_z w32 c.args.programmer c.ranges.programmer in
    record {
      anchor = c.in_ok-see.ensures.lasts.anchor_stays ∙ c.loop-id.invariant.anchor;
      home = c.in_ok-see.ensures.lasts.home_stays ∙ c.loop-id.invariant.home;
      there = c.in_ok-see.ensures.lasts.home_is_left;
      left =
          rw programmer (saw_one g.V.View.holds g.V.View.now c.args.view.now c.loop-id.view c.see.new.view c.args.programmer c.args.all c.args.ids.now c.loop-id.id-index c.loop-id.items.items c.see.new.items.items
          c.loop-id-test.true (rw programmer at c.loop-id.invariant.left) (rw (item, programmer) at c.in_ok-see.ensures.left));
    }

pub returns-clause-left : goal.returns-clause-left
returns-clause-left g c =
    let programmer = to_z-of_z w32 c.args.programmer c.ranges.programmer in
    saw_all g.V.View.holds g.V.View.now c.args.view.now c.loop-id.view c.args.programmer c.args.all c.args.ids.now c.loop-id.id-index c.loop-id.items.items c.loop-id-test.false (rw programmer at c.loop-id.invariant.left)
