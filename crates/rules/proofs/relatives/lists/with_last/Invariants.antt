use Rattle.std.proofs.Common.{◌≡◌, ◌++◌, drop}
use Rattle.rules.proofs.relatives.lists.with_last.Given as goal

abbrev pub invariant-loop-other : goal.invariant-loop-other
invariant-loop-other l = l.all.items ++ drop l.other-index l.objects ≡ l.objects
