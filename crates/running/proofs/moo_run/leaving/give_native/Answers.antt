use Rattle.std.proofs.Common.{◌∙◌, ap, ◌∷◌}
use Rattle.moo_task.specs.Frames.{native_of, outer_of}
use Rattle.moo_task.specs.declared.frame.Outer.{Outer}
use Rattle.local_code.specs.Scenes.{scene_at}
use Rattle.local_code.proofs.Out.{native_back}
use Rattle.running.proofs.moo_run.leaving.give_native.Goals as goal

pub returns-in_ok-outcome-in-Some-Verb-clause-out : goal.returns-in_ok-outcome-in-Some-Verb-clause-out
returns-in_ok-outcome-in-Some-Verb-clause-out g c w h =
    let l = c.in_ok-effect-in-Some-Verb.ensures.does w h in (
      l.0,
      native_back c.args.task.now c.resume.new.task c.in-Some-Verb.frame c.pop.new.self c.args.deeds.now c.resume-in-Some-Verb.new.deeds (g.V.View.now c.args.view.now w)
          (g.V.View.now c.resume-in-Some-Verb.new.view w) (native_of c.args.native) c.args.value c.in_ok-end-in-Some-Verb.end c.in_ok-effect-in-Some-Verb.effect _
          (c.in-Some-Verb.ensures ∙ ap (λ (o : Outer). outer_of o ∷ c.pop.new.self) c.in-Some-Verb.field-0-is) c.resume.ensures c.in_ok-end-in-Some-Verb.ensures l.1
          (c.in_ok-outcome-in-Some-Verb.ensures.led (scene_at c.resume-in-Some-Verb.new.deeds (g.V.View.now c.resume-in-Some-Verb.new.view w) c.natively.new.self)),
    )
