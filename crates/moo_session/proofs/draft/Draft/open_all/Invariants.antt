use Rattle.moo_session.specs.Sessions.{opens}
use Rattle.moo_session.specs.Drafts.{Adds}
use Rattle.moo_session.proofs.draft.Draft.open_all.Given as goal

abbrev pub invariant-open : goal.invariant-open
invariant-open l = Adds (opens 1 l.at) l.fn.self l.self
