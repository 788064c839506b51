use Rattle.std.proofs.Common.{length}
use Rattle.telnet_line.specs.Drafts.{ReadsUpTo}
use Rattle.telnet_line.proofs.draft.Draft.take_all.Given as goal

abbrev pub invariant-loop-left : goal.invariant-loop-left
invariant-loop-left l = ReadsUpTo l.piece l.left l.fn.self l.self

abbrev pub decreases-loop-left : goal.decreases-loop-left
decreases-loop-left l = length l.left
