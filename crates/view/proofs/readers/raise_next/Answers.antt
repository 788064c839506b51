use Rattle.spec_world.specs.Questions.{new_next}
use Rattle.view.proofs.SoundKeeps.{sound_raised}
use Rattle.view.proofs.StaysSound.{sound_changed}
use Rattle.view.proofs.readers.raise_next.Goals as goal

pub returns-clause-sound : goal.returns-clause-sound
returns-clause-sound g c =
    sound_changed g.V.View.holds g.V.View.now g.V.View.home c.args.view.now c.put.new.self (new_next c.args.next) c.put.result (sound_raised c.args.next)
    c.put.ensures.lasts.home_stays c.put.ensures.lasts.home_is_left c.put.ensures.left
