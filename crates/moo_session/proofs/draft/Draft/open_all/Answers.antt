use Rattle.moo_session.proofs.Adding.{opens_more}
use Rattle.moo_session.proofs.draft.Draft.open_all.Goals as goal

pub open-preserved : goal.open-preserved
open-preserved c = opens_more c.open.at c.args.self.now c.open.self c.push.new.self c.open.invariant c.in_ok-push.ensures
