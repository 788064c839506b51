use Rattle.std.proofs.Common.{◌+◌, ◌-◌, ◌*◌, length}
use Rattle.memchr.proofs.lemmas.SuffixLemmas.{IsScan}
use Rattle.moo_text.specs.TwoWay.{read_by, precedes}
use Rattle.moo_text.proofs.two_way.greatest_suffix.Given as goal

abbrev pub invariant-scan : goal.invariant-scan
invariant-scan l = IsScan (precedes l.turned) (read_by l.reading l.sought) (length l.sought) l.place l.period l.candidate l.offset

abbrev pub decreases-scan : goal.decreases-scan
decreases-scan l = 2 * length l.sought + 1 - (l.place + l.candidate + l.offset)
