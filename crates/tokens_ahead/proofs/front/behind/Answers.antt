use Rattle.tokens_ahead.proofs.front.behind.Goals as goal
use Rattle.tokens_ahead.proofs.Fronts.{behind_is}

pub returns : goal.returns
returns c = behind_is c.args.text.now c.args.front.now c.strip_prefix.result c.strip_prefix.ensures.cases
