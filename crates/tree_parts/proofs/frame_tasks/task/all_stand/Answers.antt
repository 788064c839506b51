use Rattle.std.proofs.Common.{◌≡◌, ◌∙◌, sym, true, false, rules, arith}
use Rattle.tree_parts.proofs.Among.{stands_among}
use Rattle.tree_parts.proofs.frame_tasks.task.all_stand.Goals as goal

pub returns-then-not-stands-clause-finds : goal.returns-then-not-stands-clause-finds
returns-then-not-stands-clause-finds c h =
    let yes : c.in_ok-stands.stands ≡ true =
    c.in_ok-stands.ensures.finds (stands_among c.args.outers.now c.loop-outer.outer-index c.outer-item.result c.loop-outer-test.true c.outer-item.is h) in
    let no : c.in_ok-stands.stands ≡ false = first_of (search rules, grind arith) in
    sym no ∙ yes
