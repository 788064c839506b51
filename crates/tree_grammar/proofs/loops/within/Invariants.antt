use Rattle.std.proofs.Common.{◌≡◌, ◌∷◌, ◌++◌, drop}
use Rattle.tree_grammar.proofs.loops.within.Given as goal

abbrev pub invariant-loop-own : goal.invariant-loop-own
invariant-loop-own l = l.inner.items ++ drop l.own-index l.loops ≡ l.fn.name ∷ l.loops
