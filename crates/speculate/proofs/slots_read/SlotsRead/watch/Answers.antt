use Rattle.std.proofs.Common.{◌≡◌, false, rules}
use Rattle.view.specs.Meanings.{question_of}
use Rattle.world.specs.Late.{is_about_slot}
use Rattle.speculate.proofs.Stamped.{covered_besides}
use Rattle.speculate.proofs.slots_read.SlotsRead.watch.Goals as goal

pub returns-in_default-clause-covered : goal.returns-in_default-clause-covered
returns-in_default-clause-covered c =
    let other : is_about_slot (question_of c.args.question.now) ≡ false = search rules in
    covered_besides _ (question_of c.args.question.now) other
