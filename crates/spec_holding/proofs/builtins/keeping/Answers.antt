-- Calls and stages.
use Rattle.spec_holding.proofs.BuiltinsHold.{natives_hold, stages_hold}
use Rattle.spec_holding.proofs.builtins.keeping.Goals as goal

pub returns-clause-calls : goal.returns-clause-calls
returns-clause-calls c = natives_hold

pub returns-clause-stages : goal.returns-clause-stages
returns-clause-stages c = stages_hold
