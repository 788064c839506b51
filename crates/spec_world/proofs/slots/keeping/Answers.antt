use Rattle.spec_world.proofs.SlotKeeps.{slot_keeps}
use Rattle.spec_world.proofs.slots.keeping.Goals as goal

pub returns : goal.returns
returns c = slot_keeps
