use Rattle.std.proofs.Common.{◌≡◌, ◌++◌, drop}
use Rattle.steps.proofs.step_links.collecting.followed_by.Given as goal

abbrev pub invariant-loop-kept : goal.invariant-loop-kept
invariant-loop-kept l = l.all.items ++ drop l.kept-index l.lines ≡ l.lines
