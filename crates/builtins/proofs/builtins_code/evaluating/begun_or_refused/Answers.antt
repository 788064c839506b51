use Rattle.builtins.proofs.Told.{tree_begins}
use Rattle.builtins.proofs.builtins_code.evaluating.begun_or_refused.Goals as goal

pub returns-in_ok-effect-in-Ok : goal.returns-in_ok-effect-in-Ok
returns-in_ok-effect-in-Ok c = tree_begins c.args.answer c.in-Ok.tree c.args.call.now c.args.text.now c.in_ok-effect-in-Ok.effect c.in-Ok.is c.in_ok-effect-in-Ok.ensures
