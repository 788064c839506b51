use Rattle.std.proofs.Common.{sym, refl, subst, w32}
use Rattle.std.proofs.lemmas.Int.{to_z-of_z}
use Rattle.moo_task.specs.Outcomes.{end_of}
use Rattle.moo_task.specs.declared.outcome.End.{End}
use Rattle.spec_moo.specs.Pending.{done, killed}
use Rattle.task_step.specs.declared.outcome.Ending.TheVariants.{Value, Killed}
use Rattle.steps.specs.Stops.{SettlesAs}
use Rattle.steps.proofs.Endings.{quietly}
use Rattle.steps.proofs.step_runs.ending.ended.Goals as goal

pub returns-in-Done-clause-settles : goal.returns-in-Done-clause-settles
returns-in-Done-clause-settles g c w h =
    let view = g.V.View in (
      h,
      subst (λ (x : End). SettlesAs c.args.player (end_of x) (Value c.in-Done.value) c.args.deeds.now (view.now c.args.view.now w) c.args.deeds.now (view.now c.args.view.now w)) (sym c.in-Done.is)
          (quietly c.args.player (done c.in-Done.value) (Value c.in-Done.value) c.args.deeds.now (view.now c.args.view.now w) (tt {0}) refl),
    )

pub returns-in-Killed-clause-settles : goal.returns-in-Killed-clause-settles
returns-in-Killed-clause-settles g c w h =
    let view = g.V.View in (
      h,
      subst (λ (x : End). SettlesAs c.args.player (end_of x) Killed c.args.deeds.now (view.now c.args.view.now w) c.args.deeds.now (view.now c.args.view.now w)) (sym c.in-Killed.is)
          (quietly c.args.player killed Killed c.args.deeds.now (view.now c.args.view.now w) (tt {0}) refl),
    )

pub returns-in_ok-ending-in-Raised-clause-settles : goal.returns-in_ok-ending-in-Raised-clause-settles
returns-in_ok-ending-in-Raised-clause-settles g c w h =
    let view = g.V.View in
    let player = to_z-of_z w32 c.args.player c.ranges.player in
    let r = (rw player at c.in_ok-ending-in-Raised.ensures.settles) w h in (
      r.0,
      subst (λ (x : End). SettlesAs c.args.player (end_of x) c.in_ok-ending-in-Raised.ending c.args.deeds.now (view.now c.args.view.now w) c.failed.new.deeds (view.now c.failed.new.view w)) (sym c.in-Raised.is) r.1,
    )
