use Rattle.std.proofs.Common.{◌≡◌, ◌++◌, take}
use Rattle.telnet_line.specs.Events.{events_given}
use Rattle.moo_session.specs.Sessions.{replies}
use Rattle.moo_session.proofs.telling.put_replies.Given as goal

abbrev pub invariant-event : goal.invariant-event
invariant-event l = l.text.items ≡ l.fn.text.items ++ replies (events_given (take l.event-index l.events))
