-- Objects that come, go, or get another parent.
use Rattle.spec_world.proofs.ObjectsKept.{created_keeps, reparented_keeps, recycled_keeps}
use Rattle.spec_world.proofs.objects.families.Goals as goal

pub returns-clause-created : goal.returns-clause-created
returns-clause-created c = created_keeps

pub returns-clause-reparented : goal.returns-clause-reparented
returns-clause-reparented c = reparented_keeps

pub returns-clause-recycled : goal.returns-clause-recycled
returns-clause-recycled c = recycled_keeps
