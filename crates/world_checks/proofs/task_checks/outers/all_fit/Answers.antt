use Rattle.std.proofs.Common.{◌≡◌, ◌∙◌, sym, true, false, rules, arith}
use Rattle.world_checks.specs.Waiting.{OuterFound}
use Rattle.world_checks.proofs.EachOf.{one_of_them}
use Rattle.world_checks.proofs.task_checks.outers.all_fit.Goals as goal

pub returns-then-not-branch-clause-finds : goal.returns-then-not-branch-clause-finds
returns-then-not-branch-clause-finds c h =
    let yes : c.in_ok-outer_fits.field-0 ≡ true =
    c.in_ok-outer_fits.ensures.finds (one_of_them OuterFound c.args.outers.now c.loop-outer.outer-index c.outer-item.result c.loop-outer-test.true c.outer-item.is h) in
    let no : c.in_ok-outer_fits.field-0 ≡ false = first_of (search rules, grind arith) in
    sym no ∙ yes
