use Rattle.std.proofs.Common.{◌∙◌, ap}
use Rattle.moo_task.specs.Meant.{leaving_meant}
use Rattle.moo_task.specs.declared.moo_machine.leaving.Leaving.{Leaving}
use Rattle.local_code.specs.Steps.{out_at}
use Rattle.local_code.proofs.Oks.{if_ok}
use Rattle.running.proofs.moo_run.leaving.out_of_verb.Goals as goal

pub returns-in-Broken-clause-out : goal.returns-in-Broken-clause-out
returns-in-Broken-clause-out g c =
    if_ok _ _ c.give_zero.result
    (λ o f w h. let l = f w h in
    (l.0, ap (λ (x : Leaving). out_at (leaving_meant x) c.args.deeds.now (g.V.View.now c.args.view.now w) c.args.task.now) c.in-Broken.is ∙ l.1 c.in-Broken.field-0))
    c.give_zero.ensures.broken

pub returns-in-Continued-clause-out : goal.returns-in-Continued-clause-out
returns-in-Continued-clause-out g c =
    if_ok _ _ c.give_zero-in-Continued.result
    (λ o f w h. let l = f w h in
    (l.0, ap (λ (x : Leaving). out_at (leaving_meant x) c.args.deeds.now (g.V.View.now c.args.view.now w) c.args.task.now) c.in-Continued.is ∙ l.1 c.in-Continued.field-0))
    c.give_zero-in-Continued.ensures.continued
