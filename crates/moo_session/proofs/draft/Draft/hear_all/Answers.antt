use Rattle.std.proofs.Common.{take, subst, ◌∷◌, []}
use Rattle.std.proofs.lemmas.List.{map_more}
use Rattle.telnet_line.specs.Events.{events_given}
use Rattle.telnet_line.specs.Events.{event_of as heard}
use Rattle.moo_session.specs.Sessions.{lines_of}
use Rattle.moo_session.specs.Drafts.{Adds}
use Rattle.moo_session.proofs.Adding.{lines_more}
use Rattle.moo_session.proofs.draft.Draft.hear_all.Goals as goal

pub event-preserved : goal.event-preserved
event-preserved c =
    lines_more c.args.connection (events_given (take c.event.event-index c.args.events.now)) _ _ c.args.self.now c.event.self c.hear.new.self (map_more heard c.args.events.now c.event.event-index c.event-item.result c.event-test.true) c.event.invariant (subst (λ x. Adds (lines_of c.args.connection (heard x ∷ [])) c.event.self c.hear.new.self) c.event-item.is c.in_ok-hear.ensures)
