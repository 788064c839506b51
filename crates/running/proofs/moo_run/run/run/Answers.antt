use Rattle.std.proofs.Common.{◌<◌, ◌∷◌, ◌∙◌, ap, refl, sym, subst}
use Rattle.spec_world.specs.World.{World}
use Rattle.spec_moo.specs.Pending.{out_of_ticks}
use Rattle.spec_moo.specs.Segment.{stopped}
use Rattle.moo_code.specs.Machine.{halts, waits, verb, lacks_operand}
use Rattle.moo_code.specs.Lasting.{lasting}
use Rattle.moo_code.specs.Runs.{ran, IsOver}
use Rattle.moo_task.specs.Effects.{waiting_of}
use Rattle.moo_task.specs.Outcomes.{ticks_of, running_kept}
use Rattle.moo_task.specs.declared.outcome.Outcome.{Outcome}
use Rattle.local_code.specs.Scenes.{scene_at, led_at}
use Rattle.local_code.specs.Stopping.{bound_of, begun_at}
use Rattle.local_code.proofs.Running.{comes_on, comes_first, comes_onward, over_onward, falls_onward, falls_on, over_on, operands_there, over_first, stops, step_to}
use Rattle.running.proofs.moo_run.run.run.Goals as goal

pub instructions-init : goal.instructions-init
instructions-init g c =
    record {
      anchor = refl;
      home = refl;
      held = c.requires.home;
      well_formed = c.requires.well_formed;
      player = refl;
      over = over_first c.args.task.now.player (scene_at c.args.deeds.now (g.V.View.now c.args.view.now (g.V.View.home c.args.view.now)) c.args.task.now) (running_kept c.args.task.now) c.args.task.now.outer
          (ticks_of c.args.task.now) c.requires.under_way;
      comes = λ w h. (h, comes_first c.args.task.now.player (begun_at c.args.deeds.now (g.V.View.now c.args.view.now w) c.args.task.now));
    }

pub instructions-smaller : goal.instructions-smaller
instructions-smaller g c =
    let view = g.V.View in
    let b = bound_of c.args.deeds.now (view.now c.args.view.now (view.home c.args.view.now)) c.args.task.now in
    let home = view.home c.instructions.view in
    let held : view.holds c.step.new.view home = subst (view.holds c.step.new.view) (c.in_ok-outcome.ensures.lasts.home_stays ∙ c.in_ok-go_asking.ensures.lasts.home_stays) c.in_ok-outcome.ensures.lasts.home_is_left in
    let l = c.in_ok-outcome.ensures.step home held in
    let over = (over_onward c.args.task.now.player c.instructions.task c.go_asking.new.task c.instructions.deeds (view.now c.instructions.view home) (view.now c.go_asking.new.view home) c.instructions.invariant.player ((c.in_ok-go_asking.ensures.comes home (c.in_ok-outcome.ensures.step home held).0).1 c.instructions.deeds) b c.instructions.invariant.over) in
    subst (λ (x : World). lasting c.args.task.now.player b (begun_at c.step.new.deeds (view.now c.step.new.view x) c.step.new.task)
    < lasting c.args.task.now.player b (begun_at c.instructions.deeds (view.now c.instructions.view home) c.instructions.task)) (sym (c.in_ok-outcome.ensures.lasts.home_stays ∙ c.in_ok-go_asking.ensures.lasts.home_stays))
    (falls_onward c.args.task.now.player c.instructions.task c.go_asking.new.task c.instructions.deeds (view.now c.instructions.view home) (view.now c.go_asking.new.view home) c.instructions.invariant.player ((c.in_ok-go_asking.ensures.comes home (c.in_ok-outcome.ensures.step home held).0).1 c.instructions.deeds) b (begun_at c.step.new.deeds (view.now c.step.new.view home) c.step.new.task) c.instructions.invariant.over
    (falls_on c.args.task.now.player b (scene_at c.instructions.deeds (view.now c.go_asking.new.view home) c.go_asking.new.task) (running_kept c.go_asking.new.task) c.go_asking.new.task.outer
    (ticks_of c.go_asking.new.task) (begun_at c.step.new.deeds (view.now c.step.new.view home) c.step.new.task) over
    (step_to c.args.task.now.player c.go_asking.new.task c.step.new.task c.instructions.deeds c.step.new.deeds (view.now c.go_asking.new.view home) (view.now c.step.new.view home) c.in_ok-outcome.outcome
    (begun_at c.step.new.deeds (view.now c.step.new.view home) c.step.new.task) (c.in_ok-go_asking.ensures.player ∙ c.instructions.invariant.player) l.1
    (ap (λ (o : Outcome). led_at o c.step.new.deeds (view.now c.step.new.view home) c.step.new.task) c.in-On.is))))

pub instructions-preserved : goal.instructions-preserved
instructions-preserved g c =
    let view = g.V.View in
    let b = bound_of c.args.deeds.now (view.now c.args.view.now (view.home c.args.view.now)) c.args.task.now in
    let home = view.home c.instructions.view in
    let held : view.holds c.step.new.view home = subst (view.holds c.step.new.view) (c.in_ok-outcome.ensures.lasts.home_stays ∙ c.in_ok-go_asking.ensures.lasts.home_stays) c.in_ok-outcome.ensures.lasts.home_is_left in
    let on_then = λ (w : World) (h : view.holds c.step.new.view w).
    step_to c.args.task.now.player c.go_asking.new.task c.step.new.task c.instructions.deeds c.step.new.deeds (view.now c.go_asking.new.view w) (view.now c.step.new.view w) c.in_ok-outcome.outcome
    (begun_at c.step.new.deeds (view.now c.step.new.view w) c.step.new.task) (c.in_ok-go_asking.ensures.player ∙ c.instructions.invariant.player) (c.in_ok-outcome.ensures.step w h).1
    (ap (λ (o : Outcome). led_at o c.step.new.deeds (view.now c.step.new.view w) c.step.new.task) c.in-On.is) in
    record {
      anchor = c.in_ok-outcome.ensures.lasts.anchor_stays ∙ c.in_ok-go_asking.ensures.lasts.anchor_stays ∙ c.instructions.invariant.anchor;
      home = c.in_ok-outcome.ensures.lasts.home_stays ∙ c.in_ok-go_asking.ensures.lasts.home_stays ∙ c.instructions.invariant.home;
      held = c.in_ok-outcome.ensures.lasts.home_is_left;
      well_formed = c.in_ok-outcome.ensures.well_formed;
      player = c.in_ok-outcome.ensures.player ∙ (c.in_ok-go_asking.ensures.player ∙ c.instructions.invariant.player);
      over = subst (λ (x : World). IsOver (ran c.args.task.now.player b (begun_at c.step.new.deeds (view.now c.step.new.view x) c.step.new.task))) (sym (c.in_ok-outcome.ensures.lasts.home_stays ∙ c.in_ok-go_asking.ensures.lasts.home_stays))
          (over_on c.args.task.now.player b (scene_at c.instructions.deeds (view.now c.go_asking.new.view home) c.go_asking.new.task) (running_kept c.go_asking.new.task) c.go_asking.new.task.outer
          (ticks_of c.go_asking.new.task) (begun_at c.step.new.deeds (view.now c.step.new.view home) c.step.new.task) (over_onward c.args.task.now.player c.instructions.task c.go_asking.new.task c.instructions.deeds (view.now c.instructions.view home) (view.now c.go_asking.new.view home) c.instructions.invariant.player ((c.in_ok-go_asking.ensures.comes home (c.in_ok-outcome.ensures.step home held).0).1 c.instructions.deeds) _ c.instructions.invariant.over) (on_then home held));
      comes = λ w h.
          let l = c.in_ok-outcome.ensures.step w h in
          let was = c.instructions.invariant.comes w (c.in_ok-go_asking.ensures.comes w l.0).0 in (
            was.0,
            comes_on c.args.task.now.player (begun_at c.args.deeds.now (view.now c.args.view.now w) c.args.task.now) (scene_at c.instructions.deeds (view.now c.go_asking.new.view w) c.go_asking.new.task)
                (running_kept c.go_asking.new.task) c.go_asking.new.task.outer (ticks_of c.go_asking.new.task) (begun_at c.step.new.deeds (view.now c.step.new.view w) c.step.new.task) (comes_onward c.args.task.now.player c.instructions.task c.go_asking.new.task c.instructions.deeds (view.now c.instructions.view w) (view.now c.go_asking.new.view w) c.instructions.invariant.player ((c.in_ok-go_asking.ensures.comes w (c.in_ok-outcome.ensures.step w h).0).1 c.instructions.deeds) _ was.1) (on_then w h),
          );
    }

pub returns-in-Ends-clause-stopped : goal.returns-in-Ends-clause-stopped
returns-in-Ends-clause-stopped g c w h =
    let view = g.V.View in
    let l = c.in_ok-outcome.ensures.step w h in
    let was = c.instructions.invariant.comes w (c.in_ok-go_asking.ensures.comes w l.0).0 in (
      was.0,
      λ f vars focus ps same stands.
          stops f vars focus ps c.args.task.now.player (scene_at c.args.deeds.now (view.now c.args.view.now w) c.args.task.now) (running_kept c.args.task.now) c.args.task.now.outer (ticks_of c.args.task.now) _ same stands
          (comes_on c.args.task.now.player (begun_at c.args.deeds.now (view.now c.args.view.now w) c.args.task.now) (scene_at c.instructions.deeds (view.now c.go_asking.new.view w) c.go_asking.new.task)
          (running_kept c.go_asking.new.task) c.go_asking.new.task.outer (ticks_of c.go_asking.new.task) _ (comes_onward c.args.task.now.player c.instructions.task c.go_asking.new.task c.instructions.deeds (view.now c.instructions.view w) (view.now c.go_asking.new.view w) c.instructions.invariant.player ((c.in_ok-go_asking.ensures.comes w (c.in_ok-outcome.ensures.step w h).0).1 c.instructions.deeds) _ was.1)
          (step_to c.args.task.now.player c.go_asking.new.task c.step.new.task c.instructions.deeds c.step.new.deeds (view.now c.go_asking.new.view w) (view.now c.step.new.view w) c.in_ok-outcome.outcome
          _ (c.in_ok-go_asking.ensures.player ∙ c.instructions.invariant.player) l.1
          (ap (λ (o : Outcome). led_at o c.step.new.deeds (view.now c.step.new.view w) c.step.new.task) c.in-Ends.is))),
    )

pub returns-in-RanOut-clause-stopped : goal.returns-in-RanOut-clause-stopped
returns-in-RanOut-clause-stopped g c w h =
    let view = g.V.View in
    let l = c.in_ok-outcome.ensures.step w h in
    let was = c.instructions.invariant.comes w (c.in_ok-go_asking.ensures.comes w l.0).0 in (
      was.0,
      λ f vars focus ps same stands.
          stops f vars focus ps c.args.task.now.player (scene_at c.args.deeds.now (view.now c.args.view.now w) c.args.task.now) (running_kept c.args.task.now) c.args.task.now.outer (ticks_of c.args.task.now) _ same stands
          (comes_on c.args.task.now.player (begun_at c.args.deeds.now (view.now c.args.view.now w) c.args.task.now) (scene_at c.instructions.deeds (view.now c.go_asking.new.view w) c.go_asking.new.task)
          (running_kept c.go_asking.new.task) c.go_asking.new.task.outer (ticks_of c.go_asking.new.task) _ (comes_onward c.args.task.now.player c.instructions.task c.go_asking.new.task c.instructions.deeds (view.now c.instructions.view w) (view.now c.go_asking.new.view w) c.instructions.invariant.player ((c.in_ok-go_asking.ensures.comes w (c.in_ok-outcome.ensures.step w h).0).1 c.instructions.deeds) _ was.1)
          (step_to c.args.task.now.player c.go_asking.new.task c.step.new.task c.instructions.deeds c.step.new.deeds (view.now c.go_asking.new.view w) (view.now c.step.new.view w) c.in_ok-outcome.outcome
          _ (c.in_ok-go_asking.ensures.player ∙ c.instructions.invariant.player) l.1
          (ap (λ (o : Outcome). led_at o c.step.new.deeds (view.now c.step.new.view w) c.step.new.task) c.in-RanOut.is
          ∙ ap (λ ts. halts (stopped (scene_at c.step.new.deeds (view.now c.step.new.view w) c.step.new.task) (out_of_ticks ts) 0)) (sym c.in_ok-verbs-in-RanOut.ensures)))),
    )

pub returns-in-Waits-clause-stopped : goal.returns-in-Waits-clause-stopped
returns-in-Waits-clause-stopped g c w h =
    let view = g.V.View in
    let l = c.in_ok-outcome.ensures.step w h in
    let was = c.instructions.invariant.comes w (c.in_ok-go_asking.ensures.comes w l.0).0 in (
      was.0,
      λ f vars focus ps same stands.
          stops f vars focus ps c.args.task.now.player (scene_at c.args.deeds.now (view.now c.args.view.now w) c.args.task.now) (running_kept c.args.task.now) c.args.task.now.outer (ticks_of c.args.task.now) _ same stands
          (comes_on c.args.task.now.player (begun_at c.args.deeds.now (view.now c.args.view.now w) c.args.task.now) (scene_at c.instructions.deeds (view.now c.go_asking.new.view w) c.go_asking.new.task)
          (running_kept c.go_asking.new.task) c.go_asking.new.task.outer (ticks_of c.go_asking.new.task) _ (comes_onward c.args.task.now.player c.instructions.task c.go_asking.new.task c.instructions.deeds (view.now c.instructions.view w) (view.now c.go_asking.new.view w) c.instructions.invariant.player ((c.in_ok-go_asking.ensures.comes w (c.in_ok-outcome.ensures.step w h).0).1 c.instructions.deeds) _ was.1)
          (step_to c.args.task.now.player c.go_asking.new.task c.step.new.task c.instructions.deeds c.step.new.deeds (view.now c.go_asking.new.view w) (view.now c.step.new.view w) c.in_ok-outcome.outcome
          _ (c.in_ok-go_asking.ensures.player ∙ c.instructions.invariant.player) l.1
          (ap (λ (o : Outcome). led_at o c.step.new.deeds (view.now c.step.new.view w) c.step.new.task) c.in-Waits.is
          ∙ ap (λ ks. waits (scene_at c.step.new.deeds (view.now c.step.new.view w) c.step.new.task) (waiting_of c.in-Waits.waiting) (verb (running_kept c.step.new.task) ∷ ks) (ticks_of c.step.new.task))
          (sym c.forget_rooms.ensures)))),
    )

pub unreachable-requires-in-LacksOperand : goal.unreachable-requires-in-LacksOperand
unreachable-requires-in-LacksOperand g c =
    let view = g.V.View in
    let home = view.home c.instructions.view in
    let held : view.holds c.step.new.view home = subst (view.holds c.step.new.view) (c.in_ok-outcome.ensures.lasts.home_stays ∙ c.in_ok-go_asking.ensures.lasts.home_stays) c.in_ok-outcome.ensures.lasts.home_is_left in
    operands_there c.args.task.now.player (bound_of c.args.deeds.now (view.now c.args.view.now (view.home c.args.view.now)) c.args.task.now)
    (scene_at c.instructions.deeds (view.now c.go_asking.new.view home) c.go_asking.new.task) (running_kept c.go_asking.new.task) c.go_asking.new.task.outer (ticks_of c.go_asking.new.task)
    (over_onward c.args.task.now.player c.instructions.task c.go_asking.new.task c.instructions.deeds (view.now c.instructions.view home) (view.now c.go_asking.new.view home) c.instructions.invariant.player ((c.in_ok-go_asking.ensures.comes home (c.in_ok-outcome.ensures.step home held).0).1 c.instructions.deeds) _ c.instructions.invariant.over)
    (step_to c.args.task.now.player c.go_asking.new.task c.step.new.task c.instructions.deeds c.step.new.deeds (view.now c.go_asking.new.view home) (view.now c.step.new.view home) c.in_ok-outcome.outcome
    lacks_operand (c.in_ok-go_asking.ensures.player ∙ c.instructions.invariant.player) (c.in_ok-outcome.ensures.step home held).1
    (ap (λ (o : Outcome). led_at o c.step.new.deeds (view.now c.step.new.view home) c.step.new.task) c.in-LacksOperand.is))
