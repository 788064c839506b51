use Rattle.std.proofs.Common.{◌≡◌, ◌∙◌, rules, w32, to_z, of_z}
use Rattle.builtins_view.specs.Requests.{changing_of, said_of}
use Rattle.builtins.proofs.Acts.{does_acts}
use Rattle.builtins.proofs.builtin_natives.perform.changed.Goals as goal

pub returns-clause-does : goal.returns-clause-does
returns-clause-does g c =
    let who : to_z w32 (of_z w32 c.programmer-who.result) ≡ c.programmer-who.result = search rules in
    does_acts g.V.View.holds g.V.View.now c.args.view.now c.change.new.view c.args.task.now (said_of (changing_of c.args.changing)) c.args.deeds.now _ c.in_ok-answer.answer (who ∙ c.programmer-who.ensures) c.in_ok-answer.ensures.left
