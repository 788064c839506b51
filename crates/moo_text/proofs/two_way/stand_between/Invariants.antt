use Rattle.std.proofs.Common.{◌≡◌, ◌≤◌, ◌<◌, ◌+◌, ℕ}
use Rattle.moo_text.specs.TwoWay.{read_by}
use Rattle.moo_text.proofs.two_way.stand_between.Given as goal

abbrev pub invariant-loop-k : goal.invariant-loop-k
invariant-loop-k l = (j : ℕ) → l.low ≤ j → j < l.k → read_by l.reading l.sought j ≡ read_by l.reading l.text (l.place + j)
