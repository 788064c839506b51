use Rattle.std.proofs.Common.{List, ◌∙◌, ap, sym, refl, arith, vec_items}
use Rattle.spec_world.specs.Outcome.{Outcome}
use Rattle.spec_moo.specs.Steps.{play1}
use Rattle.world.specs.Counted.{Counted}
use Rattle.task_run.proofs.Playing.{played_more, none_played, first_played, all_played}
use Rattle.task_run.proofs.list.play_list.Goals as goal

pub returns-then-not-may_play-clause-err : goal.returns-then-not-may_play-clause-err
returns-then-not-may_play-clause-err c =
    let r = c.refused.result in
    none_played c.args.world.plain (r.world).plain c.args.steps.now r.count r.outcomes.items c.refused.ensures.3 (ap (λ (w : Counted). w.plain) c.refused.ensures.1) c.refused.ensures.2

pub returns-in-Err-clause-err : goal.returns-in-Err-clause-err
returns-in-Err-clause-err c =
    let r = c.refused-in-Err.result in
    none_played c.args.world.plain (r.world).plain c.args.steps.now r.count r.outcomes.items c.refused-in-Err.ensures.3 (ap (λ (w : Counted). w.plain) c.refused-in-Err.ensures.1) c.refused-in-Err.ensures.2

pub loop-step-init : goal.loop-step-init
loop-step-init c = (
  c.in-Ok.ensures.len,
  c.in-Ok.ensures.capacity,
  (none_played c.args.world.plain c.args.world.plain c.args.steps.now 0 (vec_items c.in-Ok.outcomes) refl refl c.in-Ok.ensures.items).0,
)

pub loop-step-preserved : goal.loop-step-preserved
loop-step-preserved c = (
  omega arith,
  omega arith,
  played_more c.args.world.plain c.loop-step.world.plain c.play_step.new.world.plain c.args.steps.now c.loop-step.step-index c.step-item.result c.loop-step.outcomes.items c.in-Ok-play_step.outcome
      (omega arith) c.loop-step.invariant.2 (ap (play1 c.loop-step.world.plain) (sym c.step-item.is) ∙ c.in-Ok-play_step.ensures.ok)
      ∙ ap (λ (os : List Outcome). (c.play_step.new.world.plain, os)) (sym c.push_reserved.ensures.items),
)

pub returns-in-Err-play_step-clause-err : goal.returns-in-Err-play_step-clause-err
returns-in-Err-play_step-clause-err c =
    first_played c.args.world.plain c.loop-step.world.plain c.play_step.new.world.plain c.args.steps.now c.loop-step.step-index c.len-count.result c.loop-step.outcomes.items
    c.loop-step.invariant.2 (c.len-count.ensures ∙ c.loop-step.invariant.0) c.in-Err-play_step.ensures.err (omega arith)

pub returns-clause-ok : goal.returns-clause-ok
returns-clause-ok c = all_played c.args.world.plain c.loop-step.world.plain c.args.steps.now c.loop-step.step-index c.loop-step.outcomes.items c.loop-step.invariant.2 (omega arith)
