use Rattle.std.proofs.Common.{◌≡◌, ◌++◌, drop}
use Rattle.moo_reader.proofs.node.with_behind.Given as goal

abbrev pub invariant-loop-place : goal.invariant-loop-place
invariant-loop-place l = l.all ++ drop l.place l.others ≡ l.fn.nodes ++ l.others
