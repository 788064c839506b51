-- An object with other attributes, another content of a slot, or at another place.
use Rattle.spec_world.proofs.ObjectsKept.{attributes_keep, content_keeps, moved_keeps}
use Rattle.spec_world.proofs.objects.attributes.Goals as goal

pub returns-clause-attributes : goal.returns-clause-attributes
returns-clause-attributes c = attributes_keep

pub returns-clause-content : goal.returns-clause-content
returns-clause-content c = content_keeps

pub returns-clause-places : goal.returns-clause-places
returns-clause-places c = moved_keeps
