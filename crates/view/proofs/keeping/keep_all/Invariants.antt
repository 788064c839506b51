use Rattle.std.proofs.Common.{◌≡◌}
use Rattle.view.proofs.keeping.keep_all.Given as goal

abbrev pub invariant-loop-place : goal.invariant-loop-place
invariant-loop-place l = l.slots.items ≡ l.fn.slots.items
