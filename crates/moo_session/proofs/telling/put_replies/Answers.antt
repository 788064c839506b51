use Rattle.std.proofs.Common.{◌≡◌, ◌++◌, ◌∷◌, [], take, subst}
use Rattle.std.proofs.lemmas.List.{map_more}
use Rattle.telnet_line.specs.Events.{events_given, event_of}
use Rattle.moo_session.specs.Sessions.{replies}
use Rattle.moo_session.proofs.Growing.{grows, replies_append}
use Rattle.moo_session.proofs.telling.put_replies.Goals as goal

pub event-preserved : goal.event-preserved
event-preserved c =
    grows replies replies_append c.args.text.now.items c.event.text.items c.put_reply.new.text.items (events_given (take c.event.event-index c.args.events.now)) _ _ (map_more event_of c.args.events.now c.event.event-index c.event-item.result c.event-test.true) c.event.invariant (subst (λ x. c.put_reply.new.text.items ≡ c.event.text.items ++ replies (event_of x ∷ [])) c.event-item.is c.in_ok-put_reply.ensures)
