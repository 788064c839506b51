-- Properties that come and go.
use Rattle.spec_world.proofs.ObjectsKept.{property_added_keeps, property_deleted_keeps}
use Rattle.spec_world.proofs.objects.properties.Goals as goal

pub returns-clause-added : goal.returns-clause-added
returns-clause-added c = property_added_keeps

pub returns-clause-deleted : goal.returns-clause-deleted
returns-clause-deleted c = property_deleted_keeps
