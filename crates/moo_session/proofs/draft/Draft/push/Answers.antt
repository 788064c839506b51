use Rattle.moo_session.proofs.Adding.{adds_lost}
use Rattle.moo_session.proofs.draft.Draft.push.Goals as goal

pub returns-else-self : goal.returns-else-self
returns-else-self c = adds_lost _ _ c.if-self.false
