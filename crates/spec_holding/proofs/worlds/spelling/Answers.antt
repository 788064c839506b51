-- A world that does not stay well formed.
use Rattle.spec_holding.proofs.Unspelled.{needs_spelling}
use Rattle.spec_holding.proofs.worlds.spelling.Goals as goal

pub returns : goal.returns
returns c = needs_spelling
