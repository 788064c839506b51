use Rattle.std.proofs.Common.{◌∙◌, ap, sym}
use Rattle.spec_moo.specs.Natives.Rows.{by_row}
use Rattle.builtin_table.specs.Functions.{row_of_function}
use Rattle.builtins_view.specs.Requests.{request_of, said_of}
use Rattle.builtins.proofs.Acts.{same_acts}
use Rattle.builtins.proofs.builtin_natives.functions.call_checked.Goals as goal

pub returns-in_ok-effect-in-Ok-clause-does : goal.returns-in_ok-effect-in-Ok-clause-does
returns-in_ok-effect-in-Ok-clause-does g c =
    same_acts g.V.View.holds g.V.View.now c.args.view.now c.perform.new.view c.args.task.now (λ s k. by_row s k c.args.arguments.now (row_of_function c.args.function))
    (said_of (request_of c.in_ok-request-in-Ok.request)) c.args.deeds.now c.perform.new.deeds c.in_ok-effect-in-Ok.effect
    (λ s k. c.in-Ok.ensures.said s k ∙ ap (λ z. said_of z s k) (sym c.in_ok-request-in-Ok.ensures)) c.in_ok-effect-in-Ok.ensures.does
