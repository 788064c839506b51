use Rattle.tokens_ahead.proofs.ReadBack.{read_back}
use Rattle.tokens_ahead.proofs.laws.read_back.Goals as goal

pub returns : goal.returns
returns c = read_back
