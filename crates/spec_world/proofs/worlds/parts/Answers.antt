-- A well-formed world, and its parts.
use Rattle.spec_world.proofs.WorldsKept.{well_formed_agrees, agrees_is_well_formed}
use Rattle.spec_world.proofs.worlds.parts.Goals as goal

pub returns-clause-agrees : goal.returns-clause-agrees
returns-clause-agrees c = well_formed_agrees

pub returns-clause-whole : goal.returns-clause-whole
returns-clause-whole c = agrees_is_well_formed
