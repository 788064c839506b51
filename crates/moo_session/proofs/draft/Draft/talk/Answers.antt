use Rattle.std.proofs.Common.{arith, take, subst, ap, ◌∙◌, ◌+◌}
use Rattle.std.proofs.lemmas.List.{map_more}
use Rattle.std.proofs.lemmas.Grind.{common_steps}
use Rattle.telnet_line.specs.Events.{events_given}
use Rattle.streams.specs.Reads.{all_given}
use Rattle.moo_session.specs.Sessions.{lines_of}
use Rattle.moo_session.specs.Drafts.{Adds}
use Rattle.moo_session.proofs.Adding.{talk_more}
use Rattle.moo_session.proofs.draft.Draft.talk.Goals as goal

pub connection-preserved : goal.connection-preserved
connection-preserved c =
    talk_more c.connection.at (all_given (take c.connection.at c.args.all.now)) _ _ c.args.self.now c.connection.self c.hear_all.new.self (grind (arith, common_steps)) (map_more (λ v. events_given v.items) c.args.all.now c.connection.at c.index-all-at.result c.connection-test.true) c.connection.invariant (subst (λ x. Adds (lines_of (c.connection.at + 1) (events_given x)) c.connection.self c.hear_all.new.self) (c.as_slice.ensures.value ∙ ap (λ v. v.items) c.index-all-at.is) c.in_ok-hear_all.ensures)
