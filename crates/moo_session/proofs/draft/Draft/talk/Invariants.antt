use Rattle.std.proofs.Common.{take}
use Rattle.streams.specs.Reads.{all_given}
use Rattle.moo_session.specs.Sessions.{talk}
use Rattle.moo_session.specs.Drafts.{Adds}
use Rattle.moo_session.proofs.draft.Draft.talk.Given as goal

abbrev pub invariant-connection : goal.invariant-connection
invariant-connection l = Adds (talk 1 (all_given (take l.at l.all))) l.fn.self l.self
