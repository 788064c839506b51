use Rattle.std.proofs.Common.{◌≡◌, ◌∙◌, rules, w32, to_z, of_z}
use Rattle.moo_value.specs.Answers.{answer_of}
use Rattle.builtins_view.specs.Said.{Says}
use Rattle.builtins_view.specs.Requests.{asking_of, said_of}
use Rattle.builtins.proofs.Acts.{says_acts}
use Rattle.rules.proofs.Tellings.{known_on}
use Rattle.builtins.proofs.builtin_natives.perform.asked.Goals as goal

pub returns-clause-does : goal.returns-clause-does
returns-clause-does g c =
    let who : to_z w32 (of_z w32 c.programmer-who.result) ≡ c.programmer-who.result = search rules in
    says_acts g.V.View.holds g.V.View.now c.args.view.now c.ask.new.view c.args.task.now (said_of (asking_of c.args.asking)) c.args.deeds.now _ c.in_ok-answer.answer (who ∙ c.programmer-who.ensures) c.in_ok-answer.ensures.left

pub returns-clause-well_formed : goal.returns-clause-well_formed
returns-clause-well_formed g c =
    known_on g.V.View.holds g.V.View.now c.args.view.now c.ask.new.view
    (λ w. Says (said_of (asking_of c.args.asking)) w (to_z w32 (of_z w32 c.programmer-who.result)) (answer_of c.in_ok-answer.answer)) c.requires.well_formed c.in_ok-answer.ensures.left
