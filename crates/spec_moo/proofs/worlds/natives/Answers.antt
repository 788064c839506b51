-- Built-in functions, and their later stages.
use Rattle.spec_moo.proofs.TurnWorlds.{natives_keep, stages_keep}
use Rattle.spec_moo.proofs.worlds.natives.Goals as goal

pub returns-clause-calls : goal.returns-clause-calls
returns-clause-calls c = λ k. natives_keep k

pub returns-clause-stages : goal.returns-clause-stages
returns-clause-stages c = λ k. stages_keep k
