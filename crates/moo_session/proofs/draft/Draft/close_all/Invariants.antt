use Rattle.moo_session.specs.Sessions.{closes}
use Rattle.moo_session.specs.Drafts.{Adds}
use Rattle.moo_session.proofs.draft.Draft.close_all.Given as goal

abbrev pub invariant-close : goal.invariant-close
invariant-close l = Adds (closes 1 l.at) l.fn.self l.self
