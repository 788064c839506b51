use Rattle.world_checks.proofs.Follow.{none_once}
use Rattle.world_checks.proofs.object_checks.names.slots_at.Goals as goal

pub returns-in-None-clause-once : goal.returns-in-None-clause-once
returns-in-None-clause-once c = none_once c.args.none.now c.requires
