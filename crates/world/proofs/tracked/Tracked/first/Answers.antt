use Rattle.std.proofs.Common.{◌≡◌, subst}
use Rattle.spec_world.specs.Questions.{ask, apply_all}
use Rattle.view.specs.Meanings.{question_of, answer_of}
use Rattle.world.specs.Trace.{Trace}
use Rattle.world.proofs.Goings.{answered_after}
use Rattle.world.proofs.tracked.Tracked.first.Goals as goal

pub returns-clause-answer : goal.returns-clause-answer
returns-clause-answer c =
    let q = question_of c.args.question.now in
    answered_after c.args.self.now c.keep_listed.new.self q (answer_of c.in_ok-answer.answer) c.in_ok-keep_listed.ensures.told
    (subst (λ (s : Trace). answer_of c.in_ok-answer.answer ≡ ask (apply_all s.changes s.home) q) c.self.view_is c.in_ok-answer.ensures)
