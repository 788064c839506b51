use Rattle.std.proofs.Common.{◌≡◌, false, map, rules}
use Rattle.view.specs.Meanings.{question_of, answer_of, change_of}
use Rattle.world.specs.Late.{is_about_slot}
use Rattle.world.proofs.Lightly.{copy_unseen}
use Rattle.world.proofs.late.answer_after.Goals as goal

pub returns-in_default : goal.returns-in_default
returns-in_default c =
    let other : is_about_slot (question_of c.args.question.now) ≡ false = search rules in
    copy_unseen c.copied.result (answer_of c.args.home.now) (map change_of c.args.changes.now) (question_of c.args.question.now) c.requires other c.copied.ensures
