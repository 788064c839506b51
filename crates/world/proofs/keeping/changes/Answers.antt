use Rattle.view.proofs.SoundKeeps.{sound_valued, sound_raised}
use Rattle.world.proofs.keeping.changes.Goals as goal

pub returns-clause-values : goal.returns-clause-values
returns-clause-values c = sound_valued

pub returns-clause-next : goal.returns-clause-next
returns-clause-next c = sound_raised
