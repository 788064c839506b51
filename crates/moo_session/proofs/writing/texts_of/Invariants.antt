use Rattle.std.proofs.Common.{◌≡◌, take, length}
use Rattle.streams.specs.Reads.{all_given}
use Rattle.moo_session.specs.Sessions.{texts_from}
use Rattle.moo_session.specs.Texts.{all_items}
use Rattle.moo_session.proofs.writing.texts_of.Given as goal

abbrev pub invariant-connection : goal.invariant-connection
invariant-connection l = (all_items l.texts.items ≡ texts_from 1 (all_given (take l.at l.all)) l.outcomes) × (length l.texts.items ≡ l.at)
