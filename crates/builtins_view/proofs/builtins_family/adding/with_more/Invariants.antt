use Rattle.std.proofs.Common.{◌≡◌, ◌++◌, drop}
use Rattle.builtins_view.proofs.builtins_family.adding.with_more.Given as goal

abbrev pub invariant-loop-other : goal.invariant-loop-other
invariant-loop-other l = l.all.items ++ drop l.other-index l.names ≡ l.names
