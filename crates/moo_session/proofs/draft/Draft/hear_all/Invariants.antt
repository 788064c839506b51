use Rattle.std.proofs.Common.{take}
use Rattle.telnet_line.specs.Events.{events_given}
use Rattle.moo_session.specs.Sessions.{lines_of}
use Rattle.moo_session.specs.Drafts.{Adds}
use Rattle.moo_session.proofs.draft.Draft.hear_all.Given as goal

abbrev pub invariant-event : goal.invariant-event
invariant-event l = Adds (lines_of l.fn.connection (events_given (take l.event-index l.events))) l.fn.self l.self
