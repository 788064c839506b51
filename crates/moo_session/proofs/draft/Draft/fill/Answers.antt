use Rattle.std.proofs.Common.{length}
use Rattle.std.proofs.lemmas.List.{length-map}
use Rattle.telnet_line.specs.Events.{events_given}
use Rattle.streams.specs.Reads.{all_given}
use Rattle.moo_session.proofs.Adding.{fills}
use Rattle.moo_session.proofs.draft.Draft.fill.Goals as goal

pub returns : goal.returns
returns c =
    fills (all_given c.args.all.now) (length c.args.all.now) c.args.self.now c.open_all.new.self c.talk.new.self c.close_all.new.self (length-map c.args.all.now (λ v. events_given v.items)) c.in_ok-open_all.ensures c.in_ok-talk.ensures c.in_ok-close_all.ensures
