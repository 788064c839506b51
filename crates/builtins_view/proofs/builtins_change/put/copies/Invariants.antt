use Rattle.std.proofs.Common.{◌≡◌, ◌++◌, drop}
use Rattle.builtins_view.proofs.builtins_change.put.copies.Given as goal

abbrev pub invariant-loop-verb : goal.invariant-loop-verb
invariant-loop-verb l = l.all.items ++ drop l.verb-index l.verbs ≡ l.verbs
