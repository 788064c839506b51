use Rattle.std.proofs.Common.{◌≡◌, false, rules}
use Rattle.view.specs.Meanings.{question_of}
use Rattle.world.specs.Late.{is_about_slot}
use Rattle.world.proofs.Marked.{about_others}
use Rattle.world.proofs.marking.mark_question.Goals as goal

pub returns-in_default-clause-marked : goal.returns-in_default-clause-marked
returns-in_default-clause-marked c =
    let other : is_about_slot (question_of c.args.question.now) ≡ false = search rules in
    about_others _ (question_of c.args.question.now) other
