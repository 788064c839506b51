use Rattle.moo_session.proofs.Adding.{closes_more}
use Rattle.moo_session.proofs.draft.Draft.close_all.Goals as goal

pub close-preserved : goal.close-preserved
close-preserved c = closes_more c.close.at c.args.self.now c.close.self c.push.new.self c.close.invariant c.in_ok-push.ensures
