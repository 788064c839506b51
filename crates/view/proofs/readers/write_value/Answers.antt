use Rattle.view.specs.Meanings.{change_of}
use Rattle.view.proofs.StaysSound.{sound_changed, valued_keeps}
use Rattle.view.proofs.readers.write_value.Goals as goal

pub returns-clause-sound : goal.returns-clause-sound
returns-clause-sound g c =
    sound_changed g.V.View.holds g.V.View.now g.V.View.home c.args.view.now c.put.new.self (change_of c.new_value_of-change.result) c.put.result
    (valued_keeps _ _ _ _ c.new_value_of-change.ensures) c.put.ensures.lasts.home_stays c.put.ensures.lasts.home_is_left c.put.ensures.left
