use Rattle.std.proofs.Common.{◌≡◌, ◌≤◌, ◌<◌, ◌+◌, ◌-◌, ℕ, length}
use Rattle.moo_text.specs.TwoWay.{read_by}
use Rattle.moo_text.proofs.two_way.stand_to.Given as goal

abbrev pub invariant-characters : goal.invariant-characters
invariant-characters l = record {
  low : l.from ≤ l.stand;
  high : l.stand ≤ length l.sought;
  same : (k : ℕ) → l.from ≤ k → k < l.stand → read_by l.reading l.sought k ≡ read_by l.reading l.text (l.place + k);
}

abbrev pub decreases-characters : goal.decreases-characters
decreases-characters l = length l.sought - l.stand
