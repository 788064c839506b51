use Rattle.std.proofs.Common.{map, sym, subst}
use Rattle.spec_world.specs.Questions.{Read}
use Rattle.view.specs.Meanings.{question_of, answer_of}
use Rattle.world.specs.Seen.{read_on}
use Rattle.world.specs.Trace.{Trace, IsTold}
use Rattle.world.proofs.Found.{given}
use Rattle.world.proofs.Goings.{told_before, on_ok}
use Rattle.world.proofs.tracked.Tracked.listed.Goals as goal

pub answer-requires-in-Some : goal.answer-requires-in-Some
answer-requires-in-Some c =
    let home = c.self.inside.overlay.home in
    let read : Read = record { question = question_of c.args.question.now; answer = answer_of c.in-Some.home.now } in
    sym (given home (map (read_on home) c.self.inside.asked.notes.items) read (c.in-Some.ensures home) c.self.invariant.1)

pub returns-in-Some-clause-told : goal.returns-in-Some-clause-told
returns-in-Some-clause-told c =
    let home = c.self.inside.overlay.home in
    let t : Trace = record { home = home; reads = map (read_on home) c.self.inside.asked.notes.items; changes = c.self.inside.overlay.changes } in
    on_ok c.answer-in-Some.result (subst (λ (s : Trace). IsTold s s (question_of c.args.question.now)) c.self.view_is
    (told_before t (question_of c.args.question.now) (answer_of c.in-Some.home.now) c.self.invariant.1 (c.in-Some.ensures home)))
