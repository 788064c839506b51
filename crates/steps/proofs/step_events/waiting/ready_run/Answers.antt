use Rattle.std.proofs.Common.{◌≡◌, ◌∙◌, true, false, ap, sym, w32}
use Rattle.std.proofs.lemmas.Int.{to_z-of_z}
use Rattle.spec_value.specs.Datum.{Datum, object}
use Rattle.spec_moo.specs.Scene.{Scene}
use Rattle.spec_moo.specs.Steps.Running.{gone_on, system}
use Rattle.spec_moo.specs.Steps.Events.{ready_run, resumed, with_own_task, is_due, queued_ticks}
use Rattle.moo_task.specs.Deeds.{scene_of}
use Rattle.steps.proofs.step_events.waiting.ready_run.Goals as goal

pub returns-then-not-due-clause-played : goal.returns-then-not-due-clause-played
returns-then-not-due-clause-played g c s opening w h =
    let v = g.V.View.now c.args.view.now w in
    let t = c.args.task.now in
    let moment = ap (λ (x : Scene). x.moment) (opening v 0) in
    let never : is_due c.args.deeds.now.moment t.waiting ≡ false = sym c.is_due-due.ensures ∙ c.if-not-due.true in
    (h, ap (λ n. ready_run s v c.args.id t (is_due n t.waiting)) moment ∙ ap (ready_run s v c.args.id t) never ∙ sym (c.idle.ensures s c.args.deeds.now opening v))

pub returns-clause-played : goal.returns-clause-played
returns-clause-played g c s opening w h =
    let v = g.V.View.now c.args.view.now w in
    let t = c.args.task.now in
    let moment = ap (λ (x : Scene). x.moment) (opening v 0) in
    let due : is_due c.args.deeds.now.moment t.waiting ≡ true = sym c.is_due-due.ensures ∙ c.if-not-due.false in
    let r = (rw (to_z-of_z w32 c.args.id c.ranges.id) at c.in_ok-outcome.ensures.played) w h in (
      r.0,
      ap (λ n. ready_run s v c.args.id t (is_due n t.waiting)) moment ∙ ap (ready_run s v c.args.id t) due
          ∙ ap (λ (u : Scene). resumed (with_own_task u c.args.id) (gone_on t t.waiting (object system))) (opening v queued_ticks)
          ∙ ap (λ (x : Datum). resumed (with_own_task (scene_of c.args.deeds.now v queued_ticks) c.args.id) (gone_on t t.waiting x)) (sym c.object-value.ensures) ∙ r.1,
    )
