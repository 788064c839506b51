use Rattle.std.proofs.Common.{◌≡◌, ◌≤◌, ◌<◌, ◌+◌, ◌-◌, ℕ, length}
use Rattle.memchr.specs.Find.{Nowhere}
use Rattle.memchr.specs.TwoWay.{OccursIn}
use Rattle.moo_text.specs.TwoWay.{read_by}
use Rattle.moo_text.proofs.two_way.first_from.Given as goal

abbrev pub invariant-places : goal.invariant-places
invariant-places l = record {
  low : l.from ≤ l.place;
  high : l.place ≤ length l.text;
  none : Nowhere (OccursIn (read_by l.reading l.sought) (length l.sought) (read_by l.reading l.text) (length l.text)) l.from l.place;
  short : l.known < length l.sought;
  front : (k : ℕ) → k < l.known → read_by l.reading l.sought k ≡ read_by l.reading l.text (l.place + k);
}

abbrev pub decreases-places : goal.decreases-places
decreases-places l = length l.text - l.place
