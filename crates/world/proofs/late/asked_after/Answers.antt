use Rattle.std.proofs.Common.{◌≡◌, false, map, rules}
use Rattle.view.specs.Meanings.{question_of, change_of}
use Rattle.world.specs.Late.{is_about_slot}
use Rattle.world.proofs.Lightly.{asked_unseen}
use Rattle.world.proofs.late.asked_after.Goals as goal

pub returns-in_default : goal.returns-in_default
returns-in_default c =
    let other : is_about_slot (question_of c.args.question.now) ≡ false = search rules in
    asked_unseen c.ask.result (map change_of c.args.changes.now) c.args.home.now (question_of c.args.question.now) c.requires other c.ask.ensures
