use Rattle.std.proofs.Common.{◌∙◌, ap}
use Rattle.local_code.specs.Scenes.{scene_at}
use Rattle.local_code.specs.Steps.{offered_in}
use Rattle.local_code.specs.declared.moo_unwind.offer.Offer.{Offer}
use Rattle.local_code.proofs.Oks.{if_ok}
use Rattle.running.proofs.moo_run.leaving.leave_part.Goals as goal

pub returns-in-Taken-clause-out : goal.returns-in-Taken-clause-out
returns-in-Taken-clause-out g c w h = (
  h,
  c.in_ok-offered.ensures.offered (scene_at c.args.deeds.now (g.V.View.now c.args.view.now w) c.args.task.now)
      ∙ ap (λ (o : Offer). offered_in o (scene_at c.args.deeds.now (g.V.View.now c.args.view.now w) c.args.task.now) c.offer.new.task) c.in-Taken.is,
)

pub returns-in-LacksOperand-clause-out : goal.returns-in-LacksOperand-clause-out
returns-in-LacksOperand-clause-out g c w h = (
  h,
  c.in_ok-offered.ensures.offered (scene_at c.args.deeds.now (g.V.View.now c.args.view.now w) c.args.task.now)
      ∙ ap (λ (o : Offer). offered_in o (scene_at c.args.deeds.now (g.V.View.now c.args.view.now w) c.args.task.now) c.offer.new.task) c.in-LacksOperand.is,
)

pub returns-in-Passed-clause-out : goal.returns-in-Passed-clause-out
returns-in-Passed-clause-out g c =
    if_ok _ _ c.out_of_verb.result
    (λ o f w h. let l = f w h in (
      l.0,
      c.in_ok-offered.ensures.offered (scene_at c.args.deeds.now (g.V.View.now c.args.view.now w) c.args.task.now)
          ∙ ap (λ (x : Offer). offered_in x (scene_at c.args.deeds.now (g.V.View.now c.args.view.now w) c.args.task.now) c.offer.new.task) c.in-Passed.is
          ∙ l.1,
    )) c.out_of_verb.ensures.out
